-- Which versions spans in order hold: those above the first lower cut, outside each gap, and below the last upper cut.
use Rattle.std.proofs.Common.{◌≡◌, ◌&&◌, ◌||◌, not, Bool, true, false, List, [], ◌∷◌, refl, sym, ap, ◌∙◌}
use Rattle.std.specs.Cmp.{IsTotalOrder, alike_right}
use Rattle.std.specs.Ordering.{is_eq, is_lt, is_le, is_gt}
use Rattle.std.specs.declared.cmp.Ordering.{Ordering}
use Rattle.std.specs.declared.cmp.Ordering.TheVariants as ordering
use Rattle.std.proofs.Math.Bool.{or-false, and-true}
use Rattle.vx_spec.specs.Ascending.{IsAscending}
use Rattle.vx_scheme.specs.declared.span.Cut.{Cut}
use Rattle.vx_scheme.specs.Cuts.{stands_below, cut_below, cut_cmp, in_spans, spans_of}
use Rattle.vx_scheme.proofs.CutLaws.{cut_below-lower}
use Rattle.vx_range.specs.Laws.Points as points

-- ---- truth values

mid : (x bd be af : Bool) → (bd ≡ true → x ≡ true) → (be ≡ true → bd ≡ true) → (bd ≡ false → af ≡ true) → ((x && not bd) || (be && af)) ≡ (x && ((not bd || be) && af))
mid false false false af f g h = refl
mid false false true af f g h = absurd (cc (g refl))
mid false true be af f g h = absurd (cc (f refl))
mid true false false af f g h = sym (h refl)
mid true false true af f g h = absurd (cc (g refl))
mid true true be af f g h = refl

edge : (x bd be : Bool) → (bd ≡ true → x ≡ true) → (be ≡ true → bd ≡ true) → ((x && not bd) || be) ≡ (x && (not bd || be))
edge false false false f g = refl
edge false false true f g = absurd (cc (g refl))
edge false true be f g = absurd (cc (f refl))
edge true bd be f g = refl

not_both : (a b : Bool) → (a ≡ true → b ≡ true) → b ≡ false → a ≡ false
not_both false b f e = refl
not_both true b f e = absurd (cc (f refl, e))

pub equal_of : (o : Ordering) → is_eq o ≡ true → o ≡ ordering.Equal
equal_of ordering.Less e = cc e
equal_of ordering.Equal e = refl
equal_of ordering.Greater e = cc e

pub apart_is : (o : Ordering) → (is_lt o || is_gt o) ≡ not (is_eq o)
apart_is ordering.Less = refl
apart_is ordering.Equal = refl
apart_is ordering.Greater = refl

-- ---- cuts, one behind the other

module _ {V : Type 0} (order : V → V → Ordering) where
  -- whether the version is in what the terms behind the cut ask
  abbrev pub after_cut : V → Cut V → List (Cut V) → Bool
  after_cut v d [] = not (cut_below order d v)
  after_cut v d (e ∷ []) = not (cut_below order d v) || cut_below order e v
  after_cut v d (e ∷ f ∷ cuts) = (not (cut_below order d v) || cut_below order e v) && after_cut v f cuts

  -- the spans between the cuts
  abbrev pub inside : V → List (Cut V) → Bool
  inside v [] = false
  inside v (e ∷ []) = cut_below order e v
  inside v (e ∷ f ∷ cuts) = (cut_below order e v && not (cut_below order f v)) || inside v cuts

  abbrev pub IsRising : List (Cut V) → Type 0
  IsRising cuts = IsAscending (cut_cmp order) cuts

module _ {V : Type 0} (order : V → V → Ordering) (laws : IsTotalOrder order) where
  pub spans_say : (v : V) (cuts : List (Cut V)) → in_spans order (spans_of false cuts) v ≡ inside order v cuts
  spans_say v [] = refl
  spans_say v (e ∷ []) = or-false _ ∙ and-true _
  spans_say v (e ∷ f ∷ cuts) = λ i. (cut_below order e v && not (cut_below order f v)) || spans_say v cuts i

  true_after : (v : V) (d : Cut V) (cuts : List (Cut V)) → IsRising order (d ∷ cuts) → cut_below order d v ≡ false → after_cut order v d cuts ≡ true
  true_after v d [] rising none = rw none refl
  true_after v d (e ∷ []) rising none = rw none refl
  true_after v d (e ∷ f ∷ cuts) rising none =
      let further = not_both (cut_below order f v) (cut_below order d v) (cut_below-lower order laws d f v rising.0.1.0) none in
      rw none (true_after v f cuts rising.1.1 further)

  -- the open span, where x holds, up to d, and those behind
  pub spans_are : (v : V) (x : Bool) (d : Cut V) (cuts : List (Cut V)) → (cut_below order d v ≡ true → x ≡ true) → IsRising order (d ∷ cuts)
      → ((x && not (cut_below order d v)) || inside order v cuts) ≡ (x && after_cut order v d cuts)
  spans_are v x d [] above rising = or-false _
  spans_are v x d (e ∷ []) above rising =
      edge x (cut_below order d v) (cut_below order e v) above (cut_below-lower order laws d e v rising.0.0)
  spans_are v x d (e ∷ f ∷ cuts) above rising =
      let lower = cut_below-lower order laws d e v rising.0.0 in
      let next = cut_below-lower order laws e f v rising.1.0.0 in
      let further : cut_below order d v ≡ false → after_cut order v f cuts ≡ true = λ none. true_after v f cuts rising.1.1 (not_both (cut_below order f v) (cut_below order d v) (cut_below-lower order laws d f v rising.0.1.0) none) in
      ap (λ r. (x && not (cut_below order d v)) || r) (spans_are v (cut_below order e v) f cuts next rising.1.1)
      ∙ mid x (cut_below order d v) (cut_below order e v) (after_cut order v f cuts) above lower further

  -- ---- points and holes

  pub point_by : (c d v : V) → order c d ≡ ordering.Equal → (stands_below (order c v) false && not (stands_below (order d v) true)) ≡ is_eq (order v c)
  point_by c d v same =
      (λ i. points.over_before order laws c v i && (points.under_after order laws d v ∙ ap is_le (sym (alike_right laws c d v same))) i) ∙ points.point_is (order v c)

  pub point_says : (c d : Bool) (a b v : V) → ((not c && d) && is_eq (order a b)) ≡ true
      → (stands_below (order a v) c && not (stands_below (order b v) d)) ≡ is_eq (order v a)
  point_says false true a b v is = point_by a b v (equal_of (order a b) is)
  point_says false false a b v is = absurd (cc is)
  point_says true d a b v is = absurd (cc is)

  -- a version against the two cuts of a hole: it is in no hole where it is not order-equal to the version of the first cut
  hole_by : (a b v : V) → order a b ≡ ordering.Equal → (not (stands_below (order a v) false) || stands_below (order b v) true) ≡ not (is_eq (order v a))
  hole_by a b v same =
      (λ i. points.under_before order laws a v i || (points.over_after order laws b v ∙ ap is_gt (sym (alike_right laws a b v same))) i) ∙ apart_is (order v a)

  pub hole_says : (c d : Bool) (a b v : V) → ((not c && d) && is_eq (order a b)) ≡ true
      → (not (stands_below (order a v) c) || stands_below (order b v) d) ≡ not (is_eq (order v a))
  hole_says false true a b v is = hole_by a b v (equal_of (order a b) is)
  hole_says false false a b v is = absurd (cc is)
  hole_says true d a b v is = absurd (cc is)
