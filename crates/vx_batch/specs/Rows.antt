-- A row of fields: one to four of them, or any other number.
use Rattle.std.specs.Prelude.{◌≡◌, ◌≢◌, ℕ, List, [], ◌∷◌}
use Rattle.vx_batch.specs.declared.row.Row.{Row}
use Rattle.vx_batch.specs.declared.row.Row.TheVariants.{One, Two, Three, Four, Other}

-- the row has these fields
abbrev pub IsRow : List (List ℕ) → Row → Type 0
IsRow fields (One a) = fields ≡ a.now ∷ []
IsRow fields (Two a b) = fields ≡ a.now ∷ b.now ∷ []
IsRow fields (Three a b c) = fields ≡ a.now ∷ b.now ∷ c.now ∷ []
IsRow fields (Four a b c d) = fields ≡ a.now ∷ b.now ∷ c.now ∷ d.now ∷ []
IsRow fields Other = (a b c d : List ℕ) → (fields ≢ a ∷ []) × (fields ≢ a ∷ b ∷ []) × (fields ≢ a ∷ b ∷ c ∷ []) × (fields ≢ a ∷ b ∷ c ∷ d ∷ [])
