use Rattle.std.proofs.Common.{Option, Some, None, codes}
use Rattle.vx_scheme.specs.declared.domain.Domain.{Domain}
use Rattle.vx_translate.specs.Names.{IsFromVers, IsSameSet, IsFromVersRefused}
use Rattle.vx_translate.specs.declared.refusal.Refusal.TheVariants.{NoMemory}
use Rattle.vx_batch.specs.Answers.{AnswersBack, refusal_line}
use Rattle.vx_batch.specs.Steps.OneLine.{HasOneLine}
use Rattle.vx_batch.proofs.OneLine.{one_line, one_refused}
use Rattle.vx_batch.proofs.laws.one_line_from_vers.Goals as goal

pub returns : goal.returns
returns c domain vers = by_domain domain
  where
    by_domain : (named : Option (Option Domain)) → HasOneLine (AnswersBack named vers)
    by_domain None = one_refused (codes "no\t5 BadDomain\t-")
    by_domain (Some choice) =
        one_line NoMemory refusal_line (λ range. IsFromVers choice vers range × IsSameSet choice vers range) (IsFromVersRefused choice vers)
        (λ a b p q. c.one_from_vers.ensures.text choice vers a b p.0 q.0) (c.one_from_vers.ensures.refusal choice vers) (λ text refusal some p. c.one_from_vers.ensures.apart choice vers text refusal some p.0)
