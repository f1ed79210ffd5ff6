-- Two lists of one length, related item by item; and the items of lists.
use Rattle.std.specs.Prelude.{List, [], ◌∷◌, ◌++◌}

-- each item of the first list is related to that of the second at its place
abbrev pub AreEach : {A B : Type 0} → (A → B → Type 0) → List A → List B → Type 0
AreEach R [] [] = Unit {0}
AreEach R [] (y ∷ ys) = ⊥
AreEach R (x ∷ xs) [] = ⊥
AreEach R (x ∷ xs) (y ∷ ys) = R x y × AreEach R xs ys

-- the items of all lists, from left to right
abbrev pub joined : {X : Type 0} → List (List X) → List X
joined [] = []
joined (xs ∷ rest) = xs ++ joined rest
