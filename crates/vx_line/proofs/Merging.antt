-- What a merged list of cuts says of a place.
use Rattle.std.proofs.Common.{◌≡◌, Bool, true, false, not, cond, List, [], ◌∷◌, refl, sym, ap, ◌∙◌}
use Rattle.std.specs.declared.cmp.Ordering.{Ordering}
use Rattle.std.specs.declared.cmp.Ordering.TheVariants.{Less, Equal, Greater}
use Rattle.std.specs.Ordering.{ordering_reverse, match_ordering}
use Rattle.std.specs.Cmp.{IsTotalOrder}
use Rattle.vx_spec.specs.Ascending.{IsAscending}
use Rattle.vx_line.specs.Line.{IsPlace, is_in, emit}
use Rattle.vx_line.specs.Steps.Merges.{merge_right, merge_behind, merge_by}
use Rattle.vx_line.proofs.PlaceLaws.{none_below}
use Rattle.vx_line.proofs.Above.{above_lower}

same : (b t x : Bool) → (b ≡ false → t ≡ x) → t ≡ cond b t x
same true t x f = refl
same false t x f = f refl

pub first_turns : (op : Bool → Bool → Bool) (p q s t b : Bool) → (b ≡ false → t ≡ q) → cond b (op s t) (op p q) ≡ op (cond b s p) t
first_turns op p q s t true f = refl
first_turns op p q s t false f = ap (op p) (sym (f refl))

pub second_turns : (op : Bool → Bool → Bool) (p q s t b : Bool) → (b ≡ false → s ≡ p) → cond b (op s t) (op p q) ≡ op s (cond b t q)
second_turns op p q s t true f = refl
second_turns op p q s t false f = ap (λ w. op w q) (sym (f refl))

pub both_turn : (op : Bool → Bool → Bool) (p q s t b b' : Bool) → b ≡ b' → cond b (op s t) (op p q) ≡ op (cond b s p) (cond b' t q)
both_turn op p q s t true true e = refl
both_turn op p q s t true false e = cc
both_turn op p q s t false true e = cc
both_turn op p q s t false false e = refl

module _ {C : Type 0} {R : C → C → Ordering} (o : IsTotalOrder R) {below : C → Bool} (place : IsPlace R below) where
  -- a cut that is written where the answer changes
  pub emitted : (x y : Bool) (c : C) (list : List C) → (below c ≡ false → is_in below y list ≡ y) → is_in below x (emit x y c list) ≡ cond (below c) (is_in below y list) x
  emitted true true c list f = same (below c) (is_in below true list) true f
  emitted false false c list f = same (below c) (is_in below false list) false f
  emitted true false c list f = refl
  emitted false true c list f = refl

  module _ (op : Bool → Bool → Bool) where
    right_means : (p q : Bool) (ys : List C) → IsAscending R ys → is_in below (op p q) (merge_right op p q ys) ≡ op p (is_in below q ys)
    right_means p q [] s = refl
    right_means p q (y ∷ ys) s =
        let i = right_means p (not q) ys s.1 in
        emitted (op p q) (op p (not q)) y (merge_right op p (not q) ys) (λ n. i ∙ ap (op p) (none_below place y (not q) ys s.0 n))
        ∙ ap (λ w. cond (below y) w (op p q)) i
        ∙ second_turns op p q p (is_in below (not q) ys) (below y) (λ n. refl)

    module _ (p : Bool) (x : C) (xs : List C) (s : IsAscending R (x ∷ xs)) (next : Bool → List C → List C)
        (means : (q : Bool) (ys : List C) → IsAscending R ys → is_in below (op (not p) q) (next q ys) ≡ op (is_in below (not p) xs) (is_in below q ys)) where
      -- by which of the two first cuts is the lower one
      by_order : (q : Bool) (y : C) (ys : List C) → IsAscending R (y ∷ ys) → (r : Ordering) → R x y ≡ r
          → is_in below (op p (not q)) (merge_behind R op p x next (not q) ys) ≡ op (is_in below p (x ∷ xs)) (is_in below (not q) ys)
          → is_in below (op p q) (match_ordering r (emit (op p q) (op (not p) q) x (next q (y ∷ ys))) (emit (op p q) (op (not p) (not q)) x (next (not q) ys)) (emit (op p q) (op p (not q)) y (merge_behind R op p x next (not q) ys)))
          ≡ op (is_in below p (x ∷ xs)) (is_in below q (y ∷ ys))
      by_order q y ys t Less e i =
          let f : below x ≡ false → is_in below q (y ∷ ys) ≡ q = none_below place x q (y ∷ ys) (e, above_lower o x y ys e t.0) in
          emitted (op p q) (op (not p) q) x (next q (y ∷ ys)) (λ n. means q (y ∷ ys) t ∙ (λ j. op (none_below place x (not p) xs s.0 n j) (f n j)))
          ∙ ap (λ w. cond (below x) w (op p q)) (means q (y ∷ ys) t)
          ∙ first_turns op p q (is_in below (not p) xs) (is_in below q (y ∷ ys)) (below x) f
      by_order q y ys t Equal e i =
          let b = place.alike x y e in
          emitted (op p q) (op (not p) (not q)) x (next (not q) ys) (λ n. means (not q) ys t.1 ∙ (λ j. op (none_below place x (not p) xs s.0 n j) (none_below place y (not q) ys t.0 (sym b ∙ n) j)))
          ∙ ap (λ w. cond (below x) w (op p q)) (means (not q) ys t.1)
          ∙ both_turn op p q (is_in below (not p) xs) (is_in below (not q) ys) (below x) (below y) b
      by_order q y ys t Greater e i =
          let l : R y x ≡ Less = o.antisymm y x ∙ ap ordering_reverse e in
          let f : below y ≡ false → is_in below p (x ∷ xs) ≡ p = none_below place y p (x ∷ xs) (l, above_lower o y x xs l s.0) in
          emitted (op p q) (op p (not q)) y (merge_behind R op p x next (not q) ys) (λ n. i ∙ (λ j. op (f n j) (none_below place y (not q) ys t.0 n j)))
          ∙ ap (λ w. cond (below y) w (op p q)) i
          ∙ second_turns op p q (is_in below p (x ∷ xs)) (is_in below (not q) ys) (below y) f

      behind_means : (q : Bool) (ys : List C) → IsAscending R ys → is_in below (op p q) (merge_behind R op p x next q ys) ≡ op (is_in below p (x ∷ xs)) (is_in below q ys)
      behind_means q [] t =
          emitted (op p q) (op (not p) q) x (next q []) (λ n. means q [] tt ∙ ap (λ w. op w q) (none_below place x (not p) xs s.0 n))
          ∙ ap (λ w. cond (below x) w (op p q)) (means q [] tt)
          ∙ first_turns op p q (is_in below (not p) xs) q (below x) (λ n. refl)
      behind_means q (y ∷ ys) t = by_order q y ys t (R x y) refl (behind_means (not q) ys t.1)

    -- a merged list holds v where `op` of the two lists does
    pub merge_means : (p : Bool) (xs : List C) (q : Bool) (ys : List C) → IsAscending R xs → IsAscending R ys → is_in below (op p q) (merge_by R op p xs q ys) ≡ op (is_in below p xs) (is_in below q ys)
    merge_means p [] q ys s t = right_means p q ys t
    merge_means p (x ∷ xs) q ys s t = behind_means p x xs s (merge_by R op (not p) xs) (λ q' ys' t'. merge_means (not p) xs q' ys' s.1 t') q ys t
