use Rattle.vx_translate.specs.Names.{IsTranslated, IsSameRange, IsRefused}
use Rattle.vx_translate.specs.declared.refusal.Refusal.TheVariants.{NoMemory}
use Rattle.vx_batch.specs.Answers.{refusal_line}
use Rattle.vx_batch.proofs.OneLine.{one_line}
use Rattle.vx_batch.proofs.laws.one_line_to_vers.Goals as goal

pub returns : goal.returns
returns c name domain range =
    one_line NoMemory refusal_line (λ text. IsTranslated name domain range text × IsSameRange name domain range text) (IsRefused name domain range)
    (λ a b p q. c.one_to_vers.ensures.text name domain range a b p.0 q.0) (c.one_to_vers.ensures.refusal name domain range) (λ text refusal some p. c.one_to_vers.ensures.apart name domain range text refusal some p.0)
