-- Lists whose first two items stand apart.
use Rattle.std.specs.Prelude.{◌≡◌, List, [], ◌∷◌, Option, Some, None}

-- the items: the first, the second and the others
abbrev pub few_items : {X : Type 0} → Option X → Option X → List X → List X
few_items None second rest = []
few_items (Some a) None rest = a ∷ []
few_items (Some a) (Some b) rest = a ∷ b ∷ rest

-- the second is there only behind the first, and the others only behind the second
abbrev pub IsFilledInOrder : {X : Type 0} → Option X → Option X → List X → Type 0
IsFilledInOrder None second rest = (second ≡ None) × (rest ≡ [])
IsFilledInOrder (Some a) None rest = rest ≡ []
IsFilledInOrder (Some a) (Some b) rest = Unit {0}
