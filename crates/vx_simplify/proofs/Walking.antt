-- A walk over cuts pushes its constraints in order.
use Rattle.std.proofs.Common.{◌≡◌, Bool, not, List, [], ◌∷◌, ◌++◌, Option, sym, subst}
use Rattle.std.specs.Option.{ForSome}
use Rattle.std.specs.Cmp.{IsTotalOrder}
use Rattle.std.specs.List.{AllByRecursion}
use Rattle.std.specs.declared.cmp.Ordering.{Ordering}
use Rattle.std.specs.declared.cmp.Ordering.TheVariants.{Less}
use Rattle.std.proofs.lemmas.Bool.{cond_both}
use Rattle.vx_scheme.specs.declared.span.Cut.{Cut}
use Rattle.vx_spec.specs.Ascending.{IsAscending}
use Rattle.vx_scheme.specs.Cuts.{cut_cmp, cut_list}
use Rattle.vx_vers.specs.declared.constraints.Constraint.{Constraint}
use Rattle.vx_vers.specs.Sorted.{IsSorted, IsAboveLast}
use Rattle.vx_simplify.specs.Listed.{bound, exact, with, is_class, listed}
use Rattle.vx_simplify.proofs.ListedOrder.{listed_in_order}

module _ {V : Type 0} (R : V → V → Ordering) where
  below_next : (first item : Constraint V) (list rest : List (Constraint V)) → AllByRecursion (λ later. R first.version later.version ≡ Less) (list ++ item ∷ rest) → R first.version item.version ≡ Less
  below_next first item [] rest h = h.0
  below_next first item (d ∷ list) rest h = below_next first item list rest h.1

  -- in a sorted list each item is above the one in front of it
  pub above_last : (list : List (Constraint V)) (item : Constraint V) (rest : List (Constraint V)) → IsSorted R (list ++ item ∷ rest) → IsAboveLast R list item.version
  above_last [] item rest s = tt
  above_last (c ∷ []) item rest s = s.0.0
  above_last (c ∷ d ∷ list) item rest s = above_last (d ∷ list) item rest s.1

  above_cut : (list : List (Constraint V)) (inside : Bool) (c : Cut V) (cuts : List (Cut V)) → IsSorted R (list ++ listed R inside (c ∷ cuts)) → IsAboveLast R list c.version
  above_cut list inside c [] s = above_last list (with (bound inside c.after) c) [] s
  above_cut list inside c (d ∷ cuts) s =
      cond_both (is_class R c d) (with (exact inside) c ∷ listed R inside cuts) (with (bound inside c.after) c ∷ listed R (not inside) (d ∷ cuts)) (λ w. IsSorted R (list ++ w) → IsAboveLast R list c.version)
      (λ t h. above_last list (with (exact inside) c) (listed R inside cuts) h) (λ t h. above_last list (with (bound inside c.after) c) (listed R (not inside) (d ∷ cuts)) h) s

  -- the version of the cut that waits is above what was written
  pub above_waiting : (o : IsTotalOrder R) (list : List (Constraint V)) (inside : Bool) (waiting : Option (Cut V)) (rest : List (Cut V)) (starts : Bool) (cuts : List (Cut V)) → IsAscending (cut_cmp R) cuts → list ++ listed R inside (cut_list waiting ++ rest) ≡ listed R starts cuts → ForSome waiting (λ c. IsAboveLast R list c.version)
  above_waiting o list inside waiting rest starts cuts s so_far c waits =
      above_cut list inside c rest (subst (λ w. IsSorted R (list ++ listed R inside (cut_list w ++ rest))) waits (subst (IsSorted R) (sym so_far) (listed_in_order o starts cuts s)))
