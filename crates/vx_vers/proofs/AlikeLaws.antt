-- A list means the same at two versions with which each of its versions compares alike.
use Rattle.std.proofs.Common.{◌≡◌, Bool, false, ◌&&◌, ◌||◌, not, List, [], ◌∷◌, filter, refl, ap, ◌∙◌, inl, inr}
use Rattle.std.proofs.lemmas.Bool.{cases_Bool}
use Rattle.std.specs.declared.cmp.Ordering.{Ordering}
use Rattle.std.specs.Ordering.{is_lt, is_gt, is_eq}
use Rattle.vx_vers.specs.declared.constraints.Constraint.{Constraint}
use Rattle.vx_vers.specs.Alike.{EachAlike}
use Rattle.vx_vers.specs.Meaning.{kind, is_point, is_hole, opens_last, closes_first, side_at, side, is_under_equal, is_under_not_equal, is_all_holes, meaning}

module _ {V : Type 0} (order : V → V → Ordering) (v w : V) where
  equal_alike : (list : List (Constraint V)) → EachAlike order list v w → is_under_equal order v list ≡ is_under_equal order w list
  equal_alike [] s = refl
  equal_alike (c ∷ list) s = λ i. (is_point (kind c) && is_eq (s.0 i)) || equal_alike list s.1 i

  not_equal_alike : (list : List (Constraint V)) → EachAlike order list v w → is_under_not_equal order v list ≡ is_under_not_equal order w list
  not_equal_alike [] s = refl
  not_equal_alike (c ∷ list) s = λ i. (is_hole (kind c) && is_eq (s.0 i)) || not_equal_alike list s.1 i

  -- the cuts of a list stand to both on one side
  sides_alike : (test : Ordering → Bool) (list : List (Constraint V)) → EachAlike order list v w → filter (λ c. test (side order v c)) list ≡ filter (λ c. test (side order w c)) list
  sides_alike test [] s = refl
  sides_alike test (c ∷ list) s =
      let e : test (side order v c) ≡ test (side order w c) = ap (λ o. test (side_at c.comparator o)) s.0 in
      elim (cases_Bool (test (side order w c))) [
        | inl there ↦ rw (e ∙ there, there) (ap (λ cs. c ∷ cs) (sides_alike test list s.1))
        | inr other ↦ rw (e ∙ other, other) (sides_alike test list s.1)
      ]

  pub mean_alike : (list : List (Constraint V)) → EachAlike order list v w → meaning order v list ≡ meaning order w list
  mean_alike list s =
      λ i. equal_alike list s i || (not (not_equal_alike list s i) && (opens_last kind false (sides_alike is_lt list s i) || closes_first kind (sides_alike is_gt list s i) false || is_all_holes order v list))
