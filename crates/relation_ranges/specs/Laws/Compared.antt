-- What comparisons with one version hold, over any total order.
use Rattle.std.proofs.Common.{◌≡◌, not, ℕ, Bool, true, false, sym}
use Rattle.std.specs.Cmp.{IsTotalOrder}
use Rattle.std.specs.declared.cmp.Ordering.{Ordering}
use Rattle.vx_scheme.specs.Cuts.{stands_below, in_spans}
use Rattle.vx_range.specs.Laws.Points as points
use Rattle.relation_ranges.specs.declared.comparison.Comparison.{Comparison}
use Rattle.relation_ranges.specs.declared.comparison.Comparison.TheVariants.{Less, LessOrEqual, Equal, GreaterOrEqual, Greater}
use Rattle.relation_ranges.specs.Comparison.{is_so, spans_of}
use Rattle.relation_ranges.specs.Bounds.{lower_comparison, upper_comparison}

module _ {V : Type 0} (order : V → V → Ordering) (laws : IsTotalOrder order) where
  -- the span of a comparison holds what it holds of
  pub compared_says : (how : Comparison) (mark : ℕ) (bound v : V) → in_spans order (spans_of mark how bound) v ≡ is_so how (order v bound)
  compared_says Less mark bound v = points.below_says order laws mark bound v
  compared_says LessOrEqual mark bound v = points.up_to_says order laws mark bound v
  compared_says Equal mark bound v = points.point_says order laws mark bound v
  compared_says GreaterOrEqual mark bound v = points.from_says order laws mark bound v
  compared_says Greater mark bound v = points.above_says order laws mark bound v

  -- the comparison of a bound holds on the one side of its cut
  pub lower_by : (after : Bool) (w v : V) → is_so (lower_comparison after) (order v w) ≡ stands_below (order w v) after
  lower_by false w v = sym (points.over_before order laws w v)
  lower_by true w v = sym (points.over_after order laws w v)

  pub upper_by : (after : Bool) (w v : V) → is_so (upper_comparison after) (order v w) ≡ not (stands_below (order w v) after)
  upper_by false w v = sym (points.under_before order laws w v)
  upper_by true w v = sym (points.under_after order laws w v)
