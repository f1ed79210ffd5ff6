-- Merging two lists of cuts, as items C under an order R.
use Rattle.std.specs.Prelude.{Bool, true, false, not, List, [], ◌∷◌, Option, Some, None}
use Rattle.std.specs.Ordering.{match_ordering}
use Rattle.std.specs.declared.cmp.Ordering.{Ordering}
use Rattle.std.specs.declared.cmp.Ordering.TheVariants.{Less, Greater}
use Rattle.vx_line.specs.Line.{emit}

-- a cut of the second list goes first while it is the lower one
abbrev pub merge_behind : {C : Type 0} → (C → C → Ordering) → (Bool → Bool → Bool) → Bool → C → (Bool → List C → List C) → Bool → List C → List C
merge_behind R op p x next q [] = emit (op p q) (op (not p) q) x (next q [])
merge_behind R op p x next q (y ∷ ys) =
    match_ordering (R x y)
    (emit (op p q) (op (not p) q) x (next q (y ∷ ys)))
    (emit (op p q) (op (not p) (not q)) x (next (not q) ys))
    (emit (op p q) (op p (not q)) y (merge_behind R op p x next (not q) ys))

-- the first list has ended
abbrev pub merge_right : {C : Type 0} → (Bool → Bool → Bool) → Bool → Bool → List C → List C
merge_right op p q [] = []
merge_right op p q (y ∷ ys) = emit (op p q) (op p (not q)) y (merge_right op p (not q) ys)

-- the cuts at which `op` of the two changes, where p and q say what lies below the first cuts
abbrev pub merge_by : {C : Type 0} → (C → C → Ordering) → (Bool → Bool → Bool) → Bool → List C → Bool → List C → List C
merge_by R op p [] q ys = merge_right op p q ys
merge_by R op p (x ∷ xs) q ys = merge_behind R op p x (merge_by R op (not p) xs) q ys

-- which list the next cut is taken of: the first, both or the second; none where both have ended
abbrev pub turn_of : {C : Type 0} → (C → C → Ordering) → List C → List C → Option Ordering
turn_of R [] [] = None
turn_of R [] (y ∷ ys) = Some Greater
turn_of R (x ∷ xs) [] = Some Less
turn_of R (x ∷ xs) (y ∷ ys) = Some (R x y)

-- a truth value, where a cut turns it or not
abbrev pub turned : Bool → Bool → Bool
turned true b = not b
turned false b = b
