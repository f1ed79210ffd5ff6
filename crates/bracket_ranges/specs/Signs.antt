-- The signs of brackets, of which a square one lets its bound in: the POM Reference, "Dependency Version Requirement
-- Specification", and NuGet's "Package versioning", "Version ranges".
use Rattle.std.specs.Prelude.{◌==◌, ◌||◌, ℕ, Bool}

-- '(' is 40, and '[' 91
abbrev pub is_opening : ℕ → Bool
is_opening b = b == 40 || b == 91

-- ')' is 41, and ']' 93
abbrev pub is_closing : ℕ → Bool
is_closing b = b == 41 || b == 93

-- '[' and ']'
abbrev pub is_square : ℕ → Bool
is_square b = b == 91 || b == 93

-- ',' is 44
abbrev pub is_comma : ℕ → Bool
is_comma b = b == 44
