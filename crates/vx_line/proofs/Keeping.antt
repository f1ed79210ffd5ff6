-- Of two order-equal cuts the one of the first list is kept.
use Rattle.std.proofs.Common.{ℕ, ◌≡◌, Bool, not, List, [], ◌∷◌, None, refl, ap, ◌∙◌}
use Rattle.std.specs.declared.cmp.Ordering.{Ordering}
use Rattle.std.specs.declared.cmp.Ordering.TheVariants.{Less, Equal, Greater}
use Rattle.std.specs.Ordering.{ordering_reverse, is_eq}
use Rattle.std.specs.Cmp.{IsTotalOrder}
use Rattle.std.specs.List.{AllByRecursion}
use Rattle.std.proofs.lemmas.Cmp.{tied_itself}
use Rattle.vx_spec.specs.Ascending.{IsAscending}
use Rattle.vx_line.specs.Steps.Merges.{merge_by}
use Rattle.vx_line.specs.Least.{first_least}
use Rattle.vx_line.proofs.InOrder.{All-emit, All-right}
use Rattle.vx_line.proofs.LeastLaws.{none_level}
use Rattle.vx_line.proofs.Above.{above_lower, above_alike}

module _ {C : Type 0} (mark : C → ℕ) {R : C → C → Ordering} (o : IsTotalOrder R) (P : C → Type 0) (op : Bool → Bool → Bool) where
  -- a cut of the second list that is order-equal to none of the first
  abbrev AllNew : List C → List C → Type 0
  AllNew xs ys = AllByRecursion (λ y. first_least mark R y xs ≡ None → P y) ys

  all_new : (ys : List C) → AllNew [] ys → AllByRecursion P ys
  all_new [] h = tt
  all_new (y ∷ ys) h = (h.0 refl, all_new ys h.1)

  passed : (x : C) (xs ys : List C) → AllByRecursion (λ y. R x y ≡ Less) ys → AllNew (x ∷ xs) ys → AllNew xs ys
  passed x xs [] h g = tt
  passed x xs (y ∷ ys) h g = ((λ n. g.0 (rw (h.0, n) refl)), passed x xs ys h.1 g.1)

  module _ (p : Bool) (x : C) (xs : List C) (h : P x) (s : IsAscending R (x ∷ xs)) (n : (q : Bool) (ys : List C) → IsAscending R ys → AllNew xs ys → AllByRecursion P (merge_by R op (not p) xs q ys)) where
    by_order : (q : Bool) (y : C) (ys : List C) → IsAscending R (y ∷ ys) → AllNew (x ∷ xs) (y ∷ ys) → AllByRecursion P (merge_by R op p (x ∷ xs) (not q) ys) → (r : Ordering) → R x y ≡ r → AllByRecursion P (merge_by R op p (x ∷ xs) q (y ∷ ys))
    by_order q y ys t g i Less e = rw e (All-emit P (op p q) (op (not p) q) x (merge_by R op (not p) xs q (y ∷ ys)) h (n q (y ∷ ys) t (passed x xs (y ∷ ys) (e, above_lower o x y ys e t.0) g)))
    by_order q y ys t g i Equal e = rw e (All-emit P (op p q) (op (not p) (not q)) x (merge_by R op (not p) xs (not q) ys) h (n (not q) ys t.1 (passed x xs ys (above_alike o x y ys e t.0) g.1)))
    by_order q y ys t g i Greater e =
        let l : R y x ≡ Less = o.antisymm y x ∙ ap ordering_reverse e in
        rw e (All-emit P (op p q) (op p (not q)) y (merge_by R op p (x ∷ xs) (not q) ys) (g.0 (none_level mark o y y (x ∷ xs) (ap is_eq (tied_itself o y)) (l, above_lower o y x xs l s.0))) i)

    behind : (q : Bool) (ys : List C) → IsAscending R ys → AllNew (x ∷ xs) ys → AllByRecursion P (merge_by R op p (x ∷ xs) q ys)
    behind q [] t g = All-emit P (op p q) (op (not p) q) x (merge_by R op (not p) xs q []) h (n q [] tt tt)
    behind q (y ∷ ys) t g = by_order q y ys t g (behind (not q) ys t.1 g.1) (R x y) refl

  -- each cut of a merge is one of the first list, or one of the second that is order-equal to none of the first
  pub All-first_kept : (p : Bool) (xs : List C) (q : Bool) (ys : List C) → IsAscending R xs → IsAscending R ys → AllByRecursion P xs → AllNew xs ys → AllByRecursion P (merge_by R op p xs q ys)
  All-first_kept p [] q ys s t h g = All-right P op p q ys (all_new ys g)
  All-first_kept p (x ∷ xs) q ys s t h g = behind p x xs h.0 s (λ q' ys' t' g'. All-first_kept (not p) xs q' ys' s.1 t' h.1 g') q ys t g
