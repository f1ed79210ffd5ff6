-- Decimal numerals of any length.
use Rattle.std.specs.Prelude.{ℕ, ◌+◌, ◌-◌, ◌*◌, ◌^◌, ◌==◌, if◌then◌else◌, Bool, List, [], ◌∷◌, length, map}
use Rattle.std.specs.Int.Digits.{digits_of}
use Rattle.std.specs.Char.{is_ascii_digit}
use Rattle.vx_spec.specs.Runs.{is_made_of}

-- one digit or more, and nothing else
abbrev pub is_numeral : List ℕ → Bool
is_numeral text = is_made_of is_ascii_digit text

-- each digit times the power of ten of its place
abbrev pub value : List ℕ → ℕ
value [] = 0
value (digit ∷ digits) = (digit - 48) * 10 ^ length digits + value digits

-- the numeral of a number, without leading zeros
unfoldable pub numeral_text : ℕ → List ℕ
numeral_text number = if number == 0 then 48 ∷ [] else map (λ digit. 48 + digit) (digits_of 10 number)
