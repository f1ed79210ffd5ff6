use Rattle.std.proofs.Common.{◌≡◌, ◌∙◌, refl, sym}
use Rattle.pep440_scheme.specs.Past.{past_numeral_of}
use Rattle.pep440_scheme.proofs.PastLaws.{cut_at}
use Rattle.pep440_scheme.proofs.past.past_numeral.Goals as goal

pub returns-in-Some : goal.returns-in-Some
returns-in-Some c = rw (cut_at c.args.at c.args.text.now _ _ c.cut_bytes.ensures, sym c.first_past.ensures ∙ c.in-Some.is) refl

pub returns-in-None : goal.returns-in-None
returns-in-None c =
    let found : past_numeral_of c.args.at c.args.text.now ≡ c.past_local.result =
    rw (cut_at c.args.at c.args.text.now _ _ c.cut_bytes.ensures, sym c.first_past.ensures ∙ c.in-None.is) (sym c.past_local.ensures) in
    sym found
