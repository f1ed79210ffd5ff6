-- The terms of a lower and an upper bound, as RubyGems, RPM and Debian print them. `order` is a scheme's order, and `operator_of` the
-- language's operator for a comparison.
use Rattle.std.specs.Prelude.{ℕ, Bool, true, false, List, [], ◌∷◌, ◌++◌, if◌then◌else◌, Option, Some, None}
use Rattle.std.specs.declared.cmp.Ordering.{Ordering}
use Rattle.vx_scheme.specs.declared.span.Cut.{Cut}
use Rattle.vx_range.specs.Spans.{is_point}
use Rattle.relation_ranges.specs.declared.relations.Relation.{Relation}
use Rattle.relation_ranges.specs.declared.comparison.Comparison.{Comparison}
use Rattle.relation_ranges.specs.declared.comparison.Comparison.TheVariants.{Less, LessOrEqual, Equal, GreaterOrEqual, Greater}

-- a lower cut before V is `>= V`, one after it `> V`
abbrev pub lower_comparison : Bool → Comparison
lower_comparison false = GreaterOrEqual
lower_comparison true = Greater

-- an upper cut before W is `< W`, one after it `<= W`
abbrev pub upper_comparison : Bool → Comparison
upper_comparison false = Less
upper_comparison true = LessOrEqual

-- the term of a bound, where there is one
abbrev pub bound_term : {O V : Type 0} → (Cut V → Relation O V) → Option (Cut V) → List (List (Relation O V))
bound_term relation_of None = []
bound_term relation_of (Some cut) = (relation_of cut ∷ []) ∷ []

module _ {O V : Type 0} (operator_of : Comparison → O) where
  abbrev pub lower_relation : Cut V → Relation O V
  lower_relation cut = record { operator = operator_of (lower_comparison cut.after); version = cut.version }

  abbrev pub upper_relation : Cut V → Relation O V
  upper_relation cut = record { operator = operator_of (upper_comparison cut.after); version = cut.version }

  -- the lower bound, then the upper bound
  abbrev pub bound_terms : Option (Cut V) → Option (Cut V) → List (List (Relation O V))
  bound_terms lower upper = bound_term lower_relation lower ++ bound_term upper_relation upper

  -- the terms of a single span: `= V` of a point, with the version of its first cut, and else its bounds
  abbrev pub span_terms : (V → V → Ordering) → Option (Cut V) → Option (Cut V) → List (List (Relation O V))
  span_terms order (Some lower) (Some upper) =
      if is_point order lower upper then (record { operator = operator_of Equal; version = lower.version } ∷ []) ∷ [] else bound_terms (Some lower) (Some upper)
  span_terms order (Some lower) None = bound_terms (Some lower) None
  span_terms order None upper = bound_terms None upper
