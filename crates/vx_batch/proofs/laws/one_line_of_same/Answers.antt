use Rattle.std.proofs.Common.{Ok, Err}
use Rattle.purl_core.specs.declared.fault.PurlFault.TheVariants.{NoMemory}
use Rattle.purl_types.specs.Canonical.{IsComparedAs}
use Rattle.vx_batch.specs.Answers.{IsDecided, purl_line}
use Rattle.vx_batch.proofs.OneLine.{one_line, one_decided}
use Rattle.vx_batch.proofs.laws.one_line_of_same.Goals as goal

pub returns : goal.returns
returns c first second =
    one_line NoMemory purl_line (IsDecided (λ told. IsComparedAs first second (Ok told))) (λ fault. IsComparedAs first second (Err fault))
    (one_decided (λ told. IsComparedAs first second (Ok told)) (c.one_comparison.ensures.decision first second)) (c.one_comparison.ensures.refusal first second)
    (λ text fault some p. c.one_comparison.ensures.apart first second p.0 fault some p.1)
