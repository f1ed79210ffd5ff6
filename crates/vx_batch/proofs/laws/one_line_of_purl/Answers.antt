use Rattle.purl_core.specs.Reading.{IsRefused}
use Rattle.purl_core.specs.declared.fault.PurlFault.TheVariants.{NoMemory}
use Rattle.purl_types.specs.Canonical.{IsCanonical}
use Rattle.vx_batch.specs.Answers.{purl_line}
use Rattle.vx_batch.proofs.OneLine.{one_line}
use Rattle.vx_batch.proofs.laws.one_line_of_purl.Goals as goal

pub returns : goal.returns
returns c purl =
    one_line NoMemory purl_line (IsCanonical purl) (IsRefused purl)
    (c.one_canonical_answer.ensures.text purl) (c.one_canonical_answer.ensures.refusal purl) (λ text fault some p. c.one_canonical_answer.ensures.apart purl text fault some p)
