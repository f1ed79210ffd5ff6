-- A merged list is in order.
use Rattle.std.proofs.Common.{◌≡◌, Bool, true, false, not, List, [], ◌∷◌, refl, ap, ◌∙◌}
use Rattle.std.specs.declared.cmp.Ordering.{Ordering}
use Rattle.std.specs.declared.cmp.Ordering.TheVariants.{Less, Equal, Greater}
use Rattle.std.specs.Ordering.{ordering_reverse, match_ordering}
use Rattle.std.specs.Cmp.{IsTotalOrder}
use Rattle.std.specs.List.{AllByRecursion}
use Rattle.vx_spec.specs.Ascending.{IsAscending}
use Rattle.vx_line.specs.Line.{emit}
use Rattle.vx_line.specs.Steps.Merges.{merge_right, merge_behind, merge_by}
use Rattle.vx_line.proofs.Above.{above_lower, above_alike}

module _ {C : Type 0} where
  pub All-emit : (P : C → Type 0) (x y : Bool) (c : C) (list : List C) → P c → AllByRecursion P list → AllByRecursion P (emit x y c list)
  All-emit P true true c list h g = g
  All-emit P false false c list h g = g
  All-emit P true false c list h g = (h, g)
  All-emit P false true c list h g = (h, g)

  pub All-right : (P : C → Type 0) (op : Bool → Bool → Bool) (p q : Bool) (ys : List C) → AllByRecursion P ys → AllByRecursion P (merge_right op p q ys)
  All-right P op p q [] h = tt
  All-right P op p q (y ∷ ys) h = All-emit P (op p q) (op p (not q)) y (merge_right op p (not q) ys) h.0 (All-right P op p (not q) ys h.1)

  All-by_order : (P : C → Type 0) (r : Ordering) (a b c : List C) → AllByRecursion P a → AllByRecursion P b → AllByRecursion P c → AllByRecursion P (match_ordering r a b c)
  All-by_order P Less a b c f g h = f
  All-by_order P Equal a b c f g h = g
  All-by_order P Greater a b c f g h = h

  module _ (R : C → C → Ordering) (op : Bool → Bool → Bool) where
    All-behind : (P : C → Type 0) (p : Bool) (x : C) (next : Bool → List C → List C) → P x → ((q : Bool) (ys : List C) → AllByRecursion P ys → AllByRecursion P (next q ys)) → (q : Bool) (ys : List C) → AllByRecursion P ys → AllByRecursion P (merge_behind R op p x next q ys)
    All-behind P p x next h n q [] g = All-emit P (op p q) (op (not p) q) x (next q []) h (n q [] g)
    All-behind P p x next h n q (y ∷ ys) g =
        All-by_order P (R x y) _ _ _
        (All-emit P (op p q) (op (not p) q) x (next q (y ∷ ys)) h (n q (y ∷ ys) g))
        (All-emit P (op p q) (op (not p) (not q)) x (next (not q) ys) h (n (not q) ys g.1))
        (All-emit P (op p q) (op p (not q)) y (merge_behind R op p x next (not q) ys) g.0 (All-behind P p x next h n (not q) ys g.1))

    pub All-merge : (P : C → Type 0) (p : Bool) (xs : List C) (q : Bool) (ys : List C) → AllByRecursion P xs → AllByRecursion P ys → AllByRecursion P (merge_by R op p xs q ys)
    All-merge P p [] q ys h g = All-right P op p q ys g
    All-merge P p (x ∷ xs) q ys h g = All-behind P p x (merge_by R op (not p) xs) h.0 (λ q' ys' g'. All-merge P (not p) xs q' ys' h.1 g') q ys g

module _ {C : Type 0} {R : C → C → Ordering} (o : IsTotalOrder R) (op : Bool → Bool → Bool) where
  pub emit_in_order : (x y : Bool) (c : C) (list : List C) → AllByRecursion (λ d. R c d ≡ Less) list → IsAscending R list → IsAscending R (emit x y c list)
  emit_in_order true true c list h s = s
  emit_in_order false false c list h s = s
  emit_in_order true false c list h s = (h, s)
  emit_in_order false true c list h s = (h, s)

  right_in_order : (p q : Bool) (ys : List C) → IsAscending R ys → IsAscending R (merge_right op p q ys)
  right_in_order p q [] s = tt
  right_in_order p q (y ∷ ys) s = emit_in_order (op p q) (op p (not q)) y (merge_right op p (not q) ys) (All-right (λ d. R y d ≡ Less) op p (not q) ys s.0) (right_in_order p (not q) ys s.1)

  module _ (p : Bool) (x : C) (xs : List C) (s : IsAscending R (x ∷ xs)) (next : Bool → List C → List C)
      (all : (c : C) (q : Bool) (ys : List C) → AllByRecursion (λ d. R c d ≡ Less) xs → AllByRecursion (λ d. R c d ≡ Less) ys → AllByRecursion (λ d. R c d ≡ Less) (next q ys))
      (ordered : (q : Bool) (ys : List C) → IsAscending R ys → IsAscending R (next q ys)) where
    by_order : (q : Bool) (y : C) (ys : List C) → IsAscending R (y ∷ ys) → (r : Ordering) → R x y ≡ r → IsAscending R (merge_behind R op p x next (not q) ys)
        → IsAscending R (match_ordering r (emit (op p q) (op (not p) q) x (next q (y ∷ ys))) (emit (op p q) (op (not p) (not q)) x (next (not q) ys)) (emit (op p q) (op p (not q)) y (merge_behind R op p x next (not q) ys)))
    by_order q y ys t Less e i = emit_in_order (op p q) (op (not p) q) x (next q (y ∷ ys)) (all x q (y ∷ ys) s.0 (e, above_lower o x y ys e t.0)) (ordered q (y ∷ ys) t)
    by_order q y ys t Equal e i = emit_in_order (op p q) (op (not p) (not q)) x (next (not q) ys) (all x (not q) ys s.0 (above_alike o x y ys e t.0)) (ordered (not q) ys t.1)
    by_order q y ys t Greater e i =
        let l : R y x ≡ Less = o.antisymm y x ∙ ap ordering_reverse e in
        emit_in_order (op p q) (op p (not q)) y (merge_behind R op p x next (not q) ys)
        (All-behind R op (λ d. R y d ≡ Less) p x next l (λ q' ys' g. all y q' ys' (above_lower o y x xs l s.0) g) (not q) ys t.0) i

    behind_in_order : (q : Bool) (ys : List C) → IsAscending R ys → IsAscending R (merge_behind R op p x next q ys)
    behind_in_order q [] t = emit_in_order (op p q) (op (not p) q) x (next q []) (all x q [] s.0 tt) (ordered q [] tt)
    behind_in_order q (y ∷ ys) t = by_order q y ys t (R x y) refl (behind_in_order (not q) ys t.1)

  pub merge_in_order : (p : Bool) (xs : List C) (q : Bool) (ys : List C) → IsAscending R xs → IsAscending R ys → IsAscending R (merge_by R op p xs q ys)
  merge_in_order p [] q ys s t = right_in_order p q ys t
  merge_in_order p (x ∷ xs) q ys s t =
      behind_in_order p x xs s (merge_by R op (not p) xs)
      (λ c q' ys' h g. All-merge R op (λ d. R c d ≡ Less) (not p) xs q' ys' h g)
      (λ q' ys' t'. merge_in_order (not p) xs q' ys' s.1 t') q ys t
