-- What a push and a pop do to sorted constraints.
use Rattle.std.proofs.Common.{◌≡◌, ℕ, zero, suc, drop, List, [], ◌∷◌, ◌++◌, Ordering, Less, Result, Ok, Err, OnOk, OnErr, Option, Some, None, MatchOption, subst, sym}
use Rattle.std.specs.Cmp.{IsTotalOrder}
use Rattle.std.specs.List.{AllByRecursion}
use Rattle.vx_spec.proofs.EachLaws.{each_append}
use Rattle.vx_vers.specs.declared.constraints.Constraint.{Constraint}
use Rattle.vx_vers.specs.Sorted.{IsSorted, IsAboveLast}

module _ {V : Type 0} (order : V → V → Ordering) (laws : IsTotalOrder order) where
  first_below : (first : Constraint V) (rest : List (Constraint V)) (v : V) → IsSorted order (first ∷ rest) → IsAboveLast order (first ∷ rest) v → order first.version v ≡ Less
  first_below first [] v sorted above = above
  first_below first (next ∷ rest) v sorted above = laws.trans first.version next.version v sorted.0.0 (first_below next rest v sorted.1 above)

  above_rest : (first : Constraint V) (rest : List (Constraint V)) (v : V) → IsAboveLast order (first ∷ rest) v → IsAboveLast order rest v
  above_rest first [] v above = tt
  above_rest first (next ∷ rest) v above = above

  pub sorted-push : (list : List (Constraint V)) (item : Constraint V) → IsSorted order list → IsAboveLast order list item.version → IsSorted order (list ++ item ∷ [])
  sorted-push [] item sorted above = (tt, tt)
  sorted-push (first ∷ rest) item sorted above = (
    each_append (λ later. order first.version later.version ≡ Less) rest (item ∷ []) sorted.0 (first_below first rest item.version sorted above, tt),
    sorted-push rest item sorted.1 (above_rest first rest item.version above),
  )

  -- what either outcome of a push leaves is sorted
  pub sorted-pushed : {T E : Type 0} (outcome : Result T E) (old new : List (Constraint V)) (item : Constraint V) → OnOk outcome (new ≡ old ++ item ∷ []) → OnErr outcome (new ≡ old) → IsSorted order old → IsAboveLast order old item.version → IsSorted order new
  sorted-pushed (Ok x) old new item ok err sorted above = subst (IsSorted order) (sym ok) (sorted-push old item sorted above)
  sorted-pushed (Err e) old new item ok err sorted above = subst (IsSorted order) (sym err) sorted

  all_front : {C : Type 0} (P : C → Type 0) (list : List C) (item : C) → AllByRecursion P (list ++ item ∷ []) → AllByRecursion P list
  all_front P [] item all = tt
  all_front P (first ∷ list) item all = (all.0, all_front P list item all.1)

  pub sorted-front : (list : List (Constraint V)) (item : Constraint V) → IsSorted order (list ++ item ∷ []) → IsSorted order list
  sorted-front [] item sorted = tt
  sorted-front (first ∷ rest) item sorted = (all_front (λ later. order first.version later.version ≡ Less) rest item sorted.0, sorted-front rest item sorted.1)

  -- what either outcome of a pop leaves is sorted
  pub sorted-popped : (outcome : Option (Constraint V)) (old new : List (Constraint V)) → MatchOption outcome ((old ≡ []) × (new ≡ [])) (λ last. old ≡ new ++ last ∷ []) → IsSorted order old → IsSorted order new
  sorted-popped None old new popped sorted = subst (IsSorted order) (sym popped.1) tt
  sorted-popped (Some last) old new popped sorted = sorted-front new last (subst (IsSorted order) popped sorted)

module _ {V : Type 0} (order : V → V → Ordering) where
  -- what stands from a place on is sorted
  pub sorted_drop : (i : ℕ) (list : List (Constraint V)) → IsSorted order list → IsSorted order (drop i list)
  sorted_drop zero list sorted = sorted
  sorted_drop (suc i) [] sorted = tt
  sorted_drop (suc i) (c ∷ list) sorted = sorted_drop i list sorted.1
