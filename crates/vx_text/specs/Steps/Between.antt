-- The mark in front of a part of a joined text.
use Rattle.std.specs.Prelude.{◌==◌, if◌then◌else◌, ℕ, List, [], ◌∷◌}

-- nothing stands before the first part, and the mark before each other
abbrev pub mark_before : ℕ → ℕ → List ℕ
mark_before mark i = if i == 0 then [] else mark ∷ []
