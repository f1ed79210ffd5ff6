use Rattle.std.proofs.Common.{◌≡◌, ◌∙◌, refl, sym}
use Rattle.nuget_scheme.specs.Past.{first_past_front}
use Rattle.nuget_scheme.proofs.PastLaws.{cut_at}
use Rattle.nuget_scheme.proofs.past.past_front.Goals as goal

pub returns-in-Some : goal.returns-in-Some
returns-in-Some c = rw (cut_at c.args.at c.args.front.now _ _ c.cut_bytes.ensures, sym c.first_past_part.ensures ∙ c.in-Some.is) refl

pub returns-in-None : goal.returns-in-None
returns-in-None c =
    let found : first_past_front c.args.at c.args.front.now ≡ c.past_label.result =
    rw (cut_at c.args.at c.args.front.now _ _ c.cut_bytes.ensures, sym c.first_past_part.ensures ∙ c.in-None.is) (sym c.past_label.ensures) in
    sym found
