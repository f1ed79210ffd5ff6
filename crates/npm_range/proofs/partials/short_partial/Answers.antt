use Rattle.std.proofs.Common.{◌≡◌, ◌∷◌, ap, ◌∙◌, refl, ℕ, List}
use Rattle.npm_range.specs.Reading.{values}
use Rattle.npm_range.specs.Steps.Numbers.{values_in}
use Rattle.npm_range.proofs.NumberLaws.{third_last}
use Rattle.npm_range.proofs.partials.short_partial.Goals as goal

pub returns : goal.returns
returns c =
    let major = rw c.in-Some.is at c.in_ok-major.ensures in
    let minor = rw c.in-Some-2.is at c.in_ok-minor.ensures in
    let patch = rw c.in-Some-3.is at c.in_ok-patch.ensures in
    let all : values c.args.text.now ≡ c.in-Some.major ∷ c.in-Some-2.minor ∷ c.in-Some-3.patch ∷ values_in c.in-Some-3.field-0-1 =
    major.0 ∙ ap (λ (ns : List ℕ). c.in-Some.major ∷ ns) (minor.0 ∙ ap (λ (ns : List ℕ). c.in-Some-2.minor ∷ ns) patch.0) in (
      rw (all, c.release.ensures) refl,
      major.1 ∙ minor.1 ∙ patch.1 ∙ third_last c.args.text.now c.in-Some.major c.in-Some-2.minor c.in-Some-3.patch c.in-Some-3.field-0-1 c.requires.short all,
    )
