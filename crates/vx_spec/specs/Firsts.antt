-- The first item of a list that is refused.
use Rattle.std.specs.Prelude.{◌≡◌, Option, Some, None, List, [], ◌∷◌, ◌⊎◌}

-- `Refuses item None` says that the item is not refused, and `Refuses item (Some r)` that it is, with the refusal r.
-- The answer is the refusal of the first item that is refused, or none.
abbrev pub IsFirst : {C R : Type 0} → (C → Option R → Type 0) → List C → Option R → Type 0
IsFirst Refuses [] answer = answer ≡ None
IsFirst {R = R} Refuses (item ∷ items) answer = (Refuses item None × IsFirst Refuses items answer) ⊎ ((r : R) × Refuses item (Some r) × (answer ≡ Some r))
