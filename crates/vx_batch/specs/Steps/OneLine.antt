-- Answers of which there is one.
use Rattle.std.specs.Prelude.{◌≡◌, ℕ, Bool, List}

-- all that answers so is one answer: whether it is accepted, and its line
abbrev pub HasOneLine : (Bool → List ℕ → Type 0) → Type 0
HasOneLine Answers = (a b : Bool) (line other : List ℕ) → Answers a line → Answers b other → (a ≡ b) × (line ≡ other)
