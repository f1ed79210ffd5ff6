-- Lists that are the same but for order-equal versions mean the same.
use Rattle.std.proofs.Common.{◌≡◌, Bool, false, ◌&&◌, ◌||◌, not, List, [], ◌∷◌, filter, refl, ap, ◌∙◌, inl, inr}
use Rattle.std.proofs.lemmas.Bool.{cases_Bool}
use Rattle.std.specs.declared.cmp.Ordering.{Ordering}
use Rattle.std.specs.declared.cmp.Ordering.TheVariants.{Equal}
use Rattle.std.specs.Ordering.{is_lt, is_gt, is_eq}
use Rattle.std.specs.Cmp.{IsTotalOrder}
use Rattle.vx_vers.specs.declared.constraints.Constraint.{Constraint}
use Rattle.vx_vers.specs.Again.{IsSameList}
use Rattle.vx_vers.specs.Meaning.{kind, kind_of_comparator, is_point, is_hole, opens_next, opens_last, closes_here, closes_first, side_at, side, is_under_equal, is_under_not_equal, is_all_holes, meaning}

module _ {V : Type 0} {order : V → V → Ordering} (total : IsTotalOrder order) (v : V) where
  -- order-equal versions compare alike with v
  at : (x y : V) → order x y ≡ Equal → order x v ≡ order y v
  at x y e = total.congr x y v e

  same_side : (c d : Constraint V) → c.comparator ≡ d.comparator → order c.version d.version ≡ Equal → side order v c ≡ side order v d
  same_side c d k e = λ i. side_at (k i) (at c.version d.version e i)

  equal_same : (a b : List (Constraint V)) → IsSameList order a b → is_under_equal order v a ≡ is_under_equal order v b
  equal_same [] [] s = refl
  equal_same [] (d ∷ b) s = absurd s
  equal_same (c ∷ a) [] s = absurd s
  equal_same (c ∷ a) (d ∷ b) s = λ i. (is_point (kind_of_comparator (s.0 i)) && is_eq (at c.version d.version s.1 i)) || equal_same a b s.2 i

  not_equal_same : (a b : List (Constraint V)) → IsSameList order a b → is_under_not_equal order v a ≡ is_under_not_equal order v b
  not_equal_same [] [] s = refl
  not_equal_same [] (d ∷ b) s = absurd s
  not_equal_same (c ∷ a) [] s = absurd s
  not_equal_same (c ∷ a) (d ∷ b) s = λ i. (is_hole (kind_of_comparator (s.0 i)) && is_eq (at c.version d.version s.1 i)) || not_equal_same a b s.2 i

  holes_same : (a b : List (Constraint V)) → IsSameList order a b → is_all_holes order v a ≡ is_all_holes order v b
  holes_same [] [] s = refl
  holes_same [] (d ∷ b) s = absurd s
  holes_same (c ∷ a) [] s = absurd s
  holes_same (c ∷ a) (d ∷ b) s = λ i. is_hole (kind_of_comparator (s.0 i)) && holes_same a b s.2 i

  abbrev is_below : Constraint V → Bool
  is_below c = is_lt (side order v c)

  abbrev is_above : Constraint V → Bool
  is_above c = is_gt (side order v c)

  opens_same : (p : Bool) (a b : List (Constraint V)) → IsSameList order a b → opens_last kind p (filter is_below a) ≡ opens_last kind p (filter is_below b)
  opens_same p [] [] s = refl
  opens_same p [] (d ∷ b) s = absurd s
  opens_same p (c ∷ a) [] s = absurd s
  opens_same p (c ∷ a) (d ∷ b) s =
      let e = ap is_lt (same_side c d s.0 s.1) in
      elim (cases_Bool (is_below d)) [
        | inl below ↦ rw (e ∙ below, below) (opens_same (opens_next p (kind c)) a b s.2 ∙ ap (λ k. opens_last kind (opens_next p (kind_of_comparator k)) (filter is_below b)) s.0)
        | inr other ↦ rw (e ∙ other, other) (opens_same p a b s.2)
      ]

  closes_same : (a b : List (Constraint V)) → IsSameList order a b → closes_first kind (filter is_above a) false ≡ closes_first kind (filter is_above b) false
  closes_same [] [] s = refl
  closes_same [] (d ∷ b) s = absurd s
  closes_same (c ∷ a) [] s = absurd s
  closes_same (c ∷ a) (d ∷ b) s =
      let e = ap is_gt (same_side c d s.0 s.1) in
      elim (cases_Bool (is_above d)) [
        | inl above ↦ rw (e ∙ above, above) (λ i. closes_here (kind_of_comparator (s.0 i)) (closes_same a b s.2 i))
        | inr other ↦ rw (e ∙ other, other) (closes_same a b s.2)
      ]

  pub means_same : (a b : List (Constraint V)) → IsSameList order a b → meaning order v a ≡ meaning order v b
  means_same a b s = λ i. equal_same a b s i || (not (not_equal_same a b s i) && (opens_same false a b s i || closes_same a b s i || holes_same a b s i))
