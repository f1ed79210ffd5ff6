-- What the terms of a lower and an upper bound hold, over any total order, and that they are of versions.
use Rattle.std.proofs.Common.{◌≡◌, ◌&&◌, ◌||◌, not, Bool, true, false, Option, Some, None, sym, ◌∙◌, inl, inr}
use Rattle.std.specs.Cmp.{IsTotalOrder}
use Rattle.std.specs.List.{AllByRecursion}
use Rattle.std.specs.declared.cmp.Ordering.{Ordering}
use Rattle.std.proofs.Math.Bool.{or-false, and-true}
use Rattle.std.proofs.lemmas.Bool.{cases_Bool}
use Rattle.vx_scheme.specs.declared.span.Cut.{Cut}
use Rattle.vx_scheme.specs.Cuts.{cut_below}
use Rattle.vx_scheme.specs.Native.{CutIs}
use Rattle.vx_range.specs.Making.{terms_hold}
use Rattle.vx_range.specs.Spans.{is_point}
use Rattle.vx_range.specs.Laws.Gaps.{point_says}
use Rattle.relation_ranges.specs.declared.relations.Relation.{Relation}
use Rattle.relation_ranges.specs.declared.comparison.Comparison.{Comparison}
use Rattle.relation_ranges.specs.declared.comparison.Comparison.TheVariants.{Equal}
use Rattle.relation_ranges.specs.Comparison.{is_so}
use Rattle.relation_ranges.specs.Bounds.{lower_comparison, lower_relation, span_terms, upper_comparison, upper_relation}
use Rattle.relation_ranges.specs.Range.{relation_holds}
use Rattle.relation_ranges.specs.Laws.Compared.{lower_by, upper_by}
use Rattle.relation_ranges.specs.Laws.Written.{IsTerm}

module _ {O V : Type 0} (operator_of : Comparison → O) (order : V → V → Ordering) where
  -- the terms of a single span are of one relation each, of versions
  pub span_are : (IsVersion : V → Type 0) (barred : Bool) (lower upper : Option (Cut V)) → CutIs IsVersion lower → CutIs IsVersion upper → AllByRecursion (IsTerm IsVersion barred) (span_terms operator_of order lower upper)
  span_are IsVersion barred None None p q = tt
  span_are IsVersion barred None (Some d) p q = (q, tt)
  span_are IsVersion barred (Some c) None p q = (p, tt)
  span_are IsVersion barred (Some c) (Some d) p q = elim (cases_Bool (is_point order c d)) [
    | inl is ↦ rw is (p, tt)
    | inr other ↦ rw other (p, (q, tt))
  ]

-- `Fits` says of which comparisons and bounds the test of the version goes by the order
module _ {O V : Type 0} (operator_of : Comparison → O) (order : V → V → Ordering) (laws : IsTotalOrder order) (holds : O → V → V → Bool) (v : V) (Fits : Comparison → V → Type 0)
    (says : (how : Comparison) (bound : V) → Fits how bound → holds (operator_of how) bound v ≡ is_so how (order v bound)) where
  -- the relation holds of the version
  abbrev is_held : Relation O V → Bool
  is_held relation = relation_holds holds relation v

  pub lower_one : (cut : Cut V) → Fits (lower_comparison cut.after) cut.version → (is_held (lower_relation operator_of cut) || false) ≡ cut_below order cut v
  lower_one cut fits = or-false _ ∙ says (lower_comparison cut.after) cut.version fits ∙ lower_by order laws cut.after cut.version v

  pub upper_one : (cut : Cut V) → Fits (upper_comparison cut.after) cut.version → (is_held (upper_relation operator_of cut) || false) ≡ not (cut_below order cut v)
  upper_one cut fits = or-false _ ∙ says (upper_comparison cut.after) cut.version fits ∙ upper_by order laws cut.after cut.version v

  -- the terms of a single span with two cuts
  pub pair_says : (c d : Cut V) → Fits (lower_comparison c.after) c.version → Fits (upper_comparison d.after) d.version → (is_point order c d ≡ true → Fits Equal c.version)
      → terms_hold (relation_holds holds) (span_terms operator_of order (Some c) (Some d)) v ≡ (cut_below order c v && not (cut_below order d v))
  pair_says c d p q same = elim (cases_Bool (is_point order c d)) [
    | inl is ↦ rw is (
        and-true _ ∙ or-false _ ∙ says Equal c.version (same is)
        ∙ sym (point_says order laws c.after d.after c.version d.version v is))
    | inr other ↦ rw other (λ i. lower_one c p i && (and-true (is_held (upper_relation operator_of d) || false) ∙ upper_one d q) i)
  ]
