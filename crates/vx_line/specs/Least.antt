-- The item with the least mark of those that are order-equal to one, and tables of such items.
use Rattle.std.specs.Prelude.{ℕ, cond, nat_lt, List, [], ◌∷◌, Option, Some, None}
use Rattle.std.specs.declared.cmp.Ordering.{Ordering}
use Rattle.std.specs.Ordering.{match_ordering, is_eq}

module _ {C : Type 0} (mark : C → ℕ) where
  -- of an item and a later one: the later only where its mark is less
  abbrev pub least_of : C → C → C
  least_of c d = cond (nat_lt (mark d) (mark c)) d c

  abbrev pub least_of_both : Option C → Option C → Option C
  least_of_both None later = later
  least_of_both (Some c) None = Some c
  least_of_both (Some c) (Some d) = Some (least_of c d)

  module _ (R : C → C → Ordering) where
    -- the item, where it is order-equal to c
    abbrev pub if_level : C → C → Option C
    if_level c d = cond (is_eq (R d c)) (Some d) None

    -- of the items that are order-equal to c, the one with the least mark, and the first of those that have that mark
    abbrev pub first_least : C → List C → Option C
    first_least c [] = None
    first_least c (d ∷ items) = least_of_both (if_level c d) (first_least c items)

    -- two tables as one
    abbrev pub unite_behind : C → (List C → List C) → List C → List C
    unite_behind x next [] = x ∷ next []
    unite_behind x next (y ∷ ys) = match_ordering (R x y) (x ∷ next (y ∷ ys)) (least_of x y ∷ next ys) (y ∷ unite_behind x next ys)

    abbrev pub unite : List C → List C → List C
    unite [] ys = ys
    unite (x ∷ xs) ys = unite_behind x (unite xs) ys
