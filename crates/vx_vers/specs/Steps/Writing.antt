-- What the steps of writing leave.
use Rattle.std.specs.Prelude.{◌≡◌, ◌++◌, ℕ, List}

-- the new text is the old one, and more
abbrev pub Extends : List ℕ → List ℕ → Type 0
Extends old new = (more : List ℕ) × (new ≡ old ++ more)
