-- The spans that a bracket makes, the same in each domain, the first cut having this mark: this project's own. `order` is a
-- scheme's order.
use Rattle.std.specs.Prelude.{◌+◌, ◌&&◌, not, ℕ, Bool, true, false, List, [], ◌∷◌, if◌then◌else◌, Option, Some, None}
use Rattle.std.specs.declared.cmp.Ordering.{Ordering}
use Rattle.std.specs.declared.cmp.Ordering.TheVariants.{Less, Equal, Greater}
use Rattle.vx_scheme.specs.declared.domain.Domain.{Domain}
use Rattle.vx_scheme.specs.declared.span.Cut.{Cut}
use Rattle.vx_scheme.specs.declared.span.Span.{Span}
use Rattle.vx_range.specs.declared.making.Outcome.{Outcome}
use Rattle.vx_range.specs.declared.making.Outcome.TheVariants as made
use Rattle.vx_range.specs.Spans.{point}
use Rattle.bracket_ranges.specs.declared.bracket.Bound.{Bound}
use Rattle.bracket_ranges.specs.declared.bracket.Bracket.{Bracket}
use Rattle.bracket_ranges.specs.declared.bracket.Bracket.TheVariants.{Exact, Between}

-- every bracket makes its spans, in each domain
abbrev pub outcome : {V : Type 0} → Domain → Bracket V → Outcome
outcome domain bracket = made.Spans

module _ {V : Type 0} where
  -- the cut of a lower bound: before its version where the sign is square, and after it where it is round
  abbrev pub lower_cut : ℕ → Option (Bound V) → Option (Cut V)
  lower_cut mark None = None
  lower_cut mark (Some bound) = Some (record { version = bound.version; after = not bound.included; mark = mark })

  -- the cut of an upper bound: after its version where the sign is square, and before it where it is round
  abbrev pub upper_cut : ℕ → Option (Bound V) → Option (Cut V)
  upper_cut mark None = None
  upper_cut mark (Some bound) = Some (record { version = bound.version; after = bound.included; mark = mark })

  -- the mark behind that of a bound
  abbrev pub next_mark : ℕ → Option (Bound V) → ℕ
  next_mark mark None = mark
  next_mark mark (Some bound) = mark + 1

-- Between a lower and an upper bound that compare so lies no version: the upper is below the lower, or they are order-equal
-- and a sign is round.
abbrev pub none_between : Bool → Bool → Ordering → Bool
none_between lower upper Less = false
none_between lower upper Equal = not (lower && upper)
none_between lower upper Greater = true

module _ {V : Type 0} (order : V → V → Ordering) where
  -- both bounds are there, and no version lies between them
  abbrev pub is_empty : Option (Bound V) → Option (Bound V) → Bool
  is_empty None upper = false
  is_empty (Some lower) None = false
  is_empty (Some lower) (Some upper) = none_between lower.included upper.included (order lower.version upper.version)

  -- a bracket in which no version lies makes no span, and no cut
  abbrev pub spans_of : ℕ → Bracket V → List (Span V)
  spans_of mark (Exact version) = point mark version
  spans_of mark (Between lower upper) = if is_empty lower upper then [] else record { lower = lower_cut mark lower; upper = upper_cut (next_mark mark lower) upper } ∷ []
