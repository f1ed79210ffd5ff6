use Rattle.vx_translate.specs.Names.{IsHas, IsHasRefused}
use Rattle.vx_translate.specs.declared.refusal.Refusal.TheVariants.{NoMemory}
use Rattle.vx_batch.specs.Answers.{IsDecided, refusal_line}
use Rattle.vx_batch.proofs.OneLine.{one_line, one_decided}
use Rattle.vx_batch.proofs.laws.one_line_of_has.Goals as goal

pub returns : goal.returns
returns c vers version =
    one_line NoMemory refusal_line (IsDecided (IsHas vers version)) (IsHasRefused vers version)
    (one_decided (IsHas vers version) (c.one_has.ensures.decision vers version)) (c.one_has.ensures.refusal vers version)
    (λ text refusal some p. c.one_has.ensures.apart vers version p.0 refusal some p.1)
