-- Texts without regard to the case of ASCII letters.
use Rattle.std.specs.Prelude.{ℕ, List, map}
use Rattle.std.specs.Char.{to_ascii_lowercase}

-- ASCII letters become lower-case, and all else stays
abbrev pub lowered : List ℕ → List ℕ
lowered text = map to_ascii_lowercase text
