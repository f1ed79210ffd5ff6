-- Where among the parts of a text the first numeral begins that passes the limit of 128 bits, which is this project's own.
use Rattle.std.specs.Prelude.{ℕ, ◌+◌, ◌&&◌, if◌then◌else◌, Bool, List, [], ◌∷◌, length, Option, Some, None}
use Rattle.vx_spec.specs.Numerals.{is_numeral}
use Rattle.vx_text.specs.Past.{is_past}

-- the part is a numeral past the limit
abbrev pub is_past_numeral : List ℕ → Bool
is_past_numeral part = is_numeral part && is_past part

-- of parts with one byte between each two, the first beginning at this place: where the first such part begins
abbrev pub first_past_part : ℕ → List (List ℕ) → Option ℕ
first_past_part at [] = None
first_past_part at (part ∷ parts) = if is_past_numeral part then Some at else first_past_part (at + length part + 1) parts
