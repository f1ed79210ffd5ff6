-- A comparator makes two cuts at most, so a requirement makes at most twice as many cuts as it has comparators.
use Rattle.std.proofs.Common.{◌≡◌, ◌≤◌, ◌*◌, ℕ, List, [], ◌∷◌, length, refl, sym, ap, ◌∙◌, subst, append-nil}
use Rattle.semver.specs.Parse.{Parts}
use Rattle.vx_scheme.specs.declared.domain.Domain.{Domain}
use Rattle.vx_scheme.specs.declared.span.Span.{Span}
use Rattle.vx_range.specs.Making.{alternatives_of}
use Rattle.vx_range.specs.Sizes.{cut_count, HasTwoCuts}
use Rattle.vx_range.specs.Laws.Extents.{extent_two}
use Rattle.vx_range.specs.Laws.Sizes.{alternatives_of_short}
use Rattle.cargo_range.specs.declared.construct.Construct.{Construct}
use Rattle.cargo_range.specs.Spans.{extent_by, made_spans}
use Rattle.cargo_range.specs.Range.{Makes}
use Rattle.cargo_range.specs.Sizes.{HasConstructs}
use Rattle.cargo_range.specs.Laws.Forms.{one_reading}

pub cargo_two : HasTwoCuts made_spans
cargo_two mark construct = extent_two mark (extent_by construct.operator construct.partial)

-- of the one alternative
alternative_short : (all : List Construct) → cut_count (alternatives_of made_spans (all ∷ [])) ≤ 2 * length all
alternative_short all =
    subst (λ (constructs : List Construct). cut_count (alternatives_of made_spans (all ∷ [])) ≤ 2 * length constructs) (append-nil all)
    (alternatives_of_short made_spans cargo_two (all ∷ []))

pub cargo_short : (domain : Domain) (text : List ℕ) (bounds : List (List (List (Span Parts)))) → Makes domain text bounds
    → (n : ℕ) × HasConstructs text n × (cut_count bounds ≤ 2 * n)
cargo_short domain text bounds makes =
    let m = makes.1 in (
      length m.all,
      (m.all, m.reads, refl),
      subst (λ b. cut_count b ≤ 2 * length m.all) (sym m.are) (alternative_short m.all),
    )

-- a requirement has one number of comparators
pub cargo_one : (text : List ℕ) (a b : ℕ) → HasConstructs text a → HasConstructs text b → a ≡ b
cargo_one text a b p q = p.2 ∙ ap (λ (all : List Construct). length all) (one_reading text p.0 q.0 p.1 q.1) ∙ sym q.2
