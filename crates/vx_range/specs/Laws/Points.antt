-- Which versions the spans of versions hold, over any total order.
use Rattle.std.proofs.Common.{◌≡◌, ◌&&◌, not, ℕ, true, false, refl, ap, ◌∙◌}
use Rattle.std.specs.Cmp.{IsTotalOrder}
use Rattle.std.specs.Ordering.{ordering_reverse, is_eq, is_lt, is_le, is_gt, is_ge}
use Rattle.std.specs.declared.cmp.Ordering.{Ordering}
use Rattle.std.specs.declared.cmp.Ordering.TheVariants as ordering
use Rattle.std.proofs.Math.Bool.{or-false, and-true}
use Rattle.vx_scheme.specs.Cuts.{stands_below, in_spans}
use Rattle.vx_range.specs.Spans.{point, from, above, below, up_to, between, closed}

-- cuts, against how a version compares
before_is : (o : Ordering) → stands_below (ordering_reverse o) false ≡ is_ge o
before_is ordering.Less = refl
before_is ordering.Equal = refl
before_is ordering.Greater = refl

after_is : (o : Ordering) → stands_below (ordering_reverse o) true ≡ is_gt o
after_is ordering.Less = refl
after_is ordering.Equal = refl
after_is ordering.Greater = refl

below_is : (o : Ordering) → not (is_ge o) ≡ is_lt o
below_is ordering.Less = refl
below_is ordering.Equal = refl
below_is ordering.Greater = refl

up_to_is : (o : Ordering) → not (is_gt o) ≡ is_le o
up_to_is ordering.Less = refl
up_to_is ordering.Equal = refl
up_to_is ordering.Greater = refl

pub point_is : (o : Ordering) → (is_ge o && is_le o) ≡ is_eq o
point_is ordering.Less = refl
point_is ordering.Equal = refl
point_is ordering.Greater = refl

module _ {V : Type 0} (order : V → V → Ordering) (laws : IsTotalOrder order) where
  -- a cut at a bound, against a version
  pub over_before : (bound v : V) → stands_below (order bound v) false ≡ is_ge (order v bound)
  over_before bound v = ap (λ o. stands_below o false) (laws.antisymm bound v) ∙ before_is (order v bound)

  pub over_after : (bound v : V) → stands_below (order bound v) true ≡ is_gt (order v bound)
  over_after bound v = ap (λ o. stands_below o true) (laws.antisymm bound v) ∙ after_is (order v bound)

  pub under_before : (bound v : V) → not (stands_below (order bound v) false) ≡ is_lt (order v bound)
  under_before bound v = ap not (over_before bound v) ∙ below_is (order v bound)

  pub under_after : (bound v : V) → not (stands_below (order bound v) true) ≡ is_le (order v bound)
  under_after bound v = ap not (over_after bound v) ∙ up_to_is (order v bound)

  -- the spans of versions
  pub point_says : (mark : ℕ) (bound v : V) → in_spans order (point mark bound) v ≡ is_eq (order v bound)
  point_says mark bound v = or-false _ ∙ (λ i. over_before bound v i && under_after bound v i) ∙ point_is (order v bound)

  pub from_says : (mark : ℕ) (bound v : V) → in_spans order (from mark bound) v ≡ is_ge (order v bound)
  from_says mark bound v = or-false _ ∙ and-true _ ∙ over_before bound v

  pub above_says : (mark : ℕ) (bound v : V) → in_spans order (above mark bound) v ≡ is_gt (order v bound)
  above_says mark bound v = or-false _ ∙ and-true _ ∙ over_after bound v

  pub below_says : (mark : ℕ) (bound v : V) → in_spans order (below mark bound) v ≡ is_lt (order v bound)
  below_says mark bound v = or-false _ ∙ under_before bound v

  pub up_to_says : (mark : ℕ) (bound v : V) → in_spans order (up_to mark bound) v ≡ is_le (order v bound)
  up_to_says mark bound v = or-false _ ∙ under_after bound v

  pub between_says : (mark : ℕ) (bound end v : V) → in_spans order (between mark bound end) v ≡ (is_ge (order v bound) && is_lt (order v end))
  between_says mark bound end v = or-false _ ∙ (λ i. over_before bound v i && under_before end v i)

  pub closed_says : (mark : ℕ) (bound end v : V) → in_spans order (closed mark bound end) v ≡ (is_ge (order v bound) && is_le (order v end))
  closed_says mark bound end v = or-false _ ∙ (λ i. over_before bound v i && under_after end v i)
