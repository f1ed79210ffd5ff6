-- The spans of a bracket hold what the bracket holds of, over any total order.
use Rattle.std.proofs.Common.{◌≡◌, ◌&&◌, not, ℕ, Bool, true, false, refl, sym, ap, ◌∙◌, inl, inr, if◌then◌else◌, Option, Some, None}
use Rattle.std.specs.Cmp.{IsTotalOrder, alike_right}
use Rattle.std.specs.Ordering.{ordering_reverse, is_lt, is_le, is_gt, is_ge}
use Rattle.std.specs.declared.cmp.Ordering.{Ordering}
use Rattle.std.specs.declared.cmp.Ordering.TheVariants.{Less, Equal, Greater}
use Rattle.std.proofs.Math.Bool.{or-false}
use Rattle.std.proofs.lemmas.Bool.{cases_Bool}
use Rattle.vx_scheme.specs.Cuts as cuts
use Rattle.vx_scheme.specs.Cuts.{stands_below, cut_below, in_spans}
use Rattle.vx_range.specs.Laws.Points as points
use Rattle.bracket_ranges.specs.declared.bracket.Bound.{Bound}
use Rattle.bracket_ranges.specs.declared.bracket.Bracket.{Bracket}
use Rattle.bracket_ranges.specs.declared.bracket.Bracket.TheVariants.{Exact, Between}
use Rattle.bracket_ranges.specs.Holds.{is_over, is_under, holds}
use Rattle.bracket_ranges.specs.Spans.{lower_cut, upper_cut, next_mark, none_between, is_empty, spans_of}

-- how a version has to compare with a bound
abbrev over_by : Bool → Ordering → Bool
over_by included o = if included then is_ge o else is_gt o

abbrev under_by : Bool → Ordering → Bool
under_by included o = if included then is_le o else is_lt o

-- none compares so with order-equal bounds of which one has a round sign
no_equal : (i j : Bool) (o : Ordering) → not (i && j) ≡ true → (over_by i o && under_by j o) ≡ false
no_equal true true o round = cc round
no_equal true false Less round = refl
no_equal true false Equal round = refl
no_equal true false Greater round = refl
no_equal false true Less round = refl
no_equal false true Equal round = refl
no_equal false true Greater round = refl
no_equal false false Less round = refl
no_equal false false Equal round = refl
no_equal false false Greater round = refl

never_over : (i : Bool) → over_by i Less ≡ false
never_over true = refl
never_over false = refl

never_under : (j : Bool) → under_by j Greater ≡ false
never_under true = refl
never_under false = refl

and_none : (a b : Bool) → b ≡ false → (a && b) ≡ false
and_none true b none = none
and_none false b none = refl

module _ {V : Type 0} (order : V → V → Ordering) (laws : IsTotalOrder order) where
  -- ---- cuts

  -- the cut of a bound, against a version
  pub over_cut : (included : Bool) (w v : V) → stands_below (order w v) (not included) ≡ over_by included (order v w)
  over_cut true w v = points.over_before order laws w v
  over_cut false w v = points.over_after order laws w v

  pub under_cut : (included : Bool) (w v : V) → not (stands_below (order w v) included) ≡ under_by included (order v w)
  under_cut true w v = points.under_after order laws w v
  under_cut false w v = points.under_before order laws w v

  lower_says : (mark : ℕ) (lower : Option (Bound V)) (v : V) → cuts.is_over (λ cut. cut_below order cut v) (lower_cut mark lower) ≡ is_over order lower v
  lower_says mark None v = refl
  lower_says mark (Some bound) v = over_cut bound.included bound.version v

  upper_says : (mark : ℕ) (upper : Option (Bound V)) (v : V) → cuts.is_under (λ cut. cut_below order cut v) (upper_cut mark upper) ≡ is_under order upper v
  upper_says mark None v = refl
  upper_says mark (Some bound) v = under_cut bound.included bound.version v

  -- ---- brackets in which no version lies

  -- what is above the higher of two is above the lower
  above_both : (x y v : V) → order v x ≡ Greater → order x y ≡ Greater → order v y ≡ Greater
  above_both x y v p q =
      let below_v : order x v ≡ Less = laws.antisymm x v ∙ ap ordering_reverse p in
      let below_x : order y x ≡ Less = laws.antisymm y x ∙ ap ordering_reverse q in
      laws.antisymm v y ∙ ap ordering_reverse (laws.trans y x v below_x below_v)

  none_above : (i j : Bool) (x y v : V) (o : Ordering) → order v x ≡ o → order x y ≡ Greater → (over_by i (order v x) && under_by j (order v y)) ≡ false
  none_above i j x y v Less e turned = rw (e, never_over i) refl
  none_above i j x y v Equal e turned =
      and_none (over_by i (order v x)) (under_by j (order v y)) (ap (under_by j) (laws.congr v x y e ∙ turned) ∙ never_under j)
  none_above i j x y v Greater e turned =
      and_none (over_by i (order v x)) (under_by j (order v y)) (ap (under_by j) (above_both x y v e turned) ∙ never_under j)

  none_says : (i j : Bool) (x y v : V) (o : Ordering) → order x y ≡ o → none_between i j o ≡ true → (over_by i (order v x) && under_by j (order v y)) ≡ false
  none_says i j x y v Less e none = absurd (cc none)
  none_says i j x y v Equal e none =
      ap (λ p. over_by i p && under_by j (order v y)) (alike_right laws x y v e) ∙ no_equal i j (order v y) none
  none_says i j x y v Greater e none = none_above i j x y v (order v x) refl e

  empty_says : (lower upper : Option (Bound V)) (v : V) → is_empty order lower upper ≡ true → (is_over order lower v && is_under order upper v) ≡ false
  empty_says None upper v is = cc is
  empty_says (Some lower) None v is = cc is
  empty_says (Some lower) (Some upper) v is =
      none_says lower.included upper.included lower.version upper.version v (order lower.version upper.version) refl is

  -- ---- brackets

  pub bracket_says : (mark : ℕ) (bracket : Bracket V) (v : V) → in_spans order (spans_of order mark bracket) v ≡ holds order bracket v
  bracket_says mark (Exact version) v = points.point_says order laws mark version v
  bracket_says mark (Between lower upper) v = elim (cases_Bool (is_empty order lower upper)) [
    | inl is ↦ rw is (sym (empty_says lower upper v is))
    | inr other ↦ rw other (or-false _ ∙ (λ i. lower_says mark lower v i && upper_says (next_mark mark lower) upper v i))
  ]
