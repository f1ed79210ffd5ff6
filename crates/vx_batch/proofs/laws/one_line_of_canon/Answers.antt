use Rattle.vx_translate.specs.Names.{IsCanon, IsSameList, IsCanonRefused}
use Rattle.vx_translate.specs.declared.refusal.Refusal.TheVariants.{NoMemory}
use Rattle.vx_batch.specs.Answers.{refusal_line}
use Rattle.vx_batch.proofs.OneLine.{one_line}
use Rattle.vx_batch.proofs.laws.one_line_of_canon.Goals as goal

pub returns : goal.returns
returns c vers =
    one_line NoMemory refusal_line (λ canonical. IsCanon vers canonical × IsSameList vers canonical) (IsCanonRefused vers)
    (λ a b p q. c.one_canon.ensures.text vers a b p.0 q.0) (c.one_canon.ensures.refusal vers) (λ text refusal some p. c.one_canon.ensures.apart vers text refusal some p.0)
