-- A version after Debian Policy, 5.6.12: its fields, with numbers of any size and texts as their bytes; the letters of a
-- part of its text; and the limit of numerals.
use Rattle.std.specs.Prelude.{ℕ, ◌==◌, ◌<◌, ◌^◌, not, Bool, if◌then◌else◌, List, [], ◌∷◌, ◌++◌, map}
use Rattle.std.specs.Char.{is_ascii_alphabetic, is_ascii_digit}
use Rattle.std.specs.List.{AllByRecursion}
use Rattle.vx_spec.specs.Numerals.{value}
use Rattle.vx_spec.specs.Runs.{run, past}
use Rattle.vx_spec.specs.Signs.{tilde}
use Rattle.vx_order.specs.declared.letter.Letter.{Letter}
use Rattle.vx_order.specs.Letters.{LetterIsWithin, end_letter}
use Rattle.vx_order.specs.Scanning.{scanned}

-- the fields: the text as it is written, the epoch, and the letters of the upstream part and of the revision
pub record Fields : Type 0 where
  pub text : List ℕ
  pub epoch : ℕ
  pub upstream : List Letter
  pub revision : List Letter

-- a byte that is no digit
abbrev pub is_other : ℕ → Bool
is_other b = not (is_ascii_digit b)

-- a run of bytes that are no digits, and the run of digits behind it
pub record Pair : Type 0 where
  pub others : List ℕ
  pub digits : List ℕ

-- the pair at the front of a part, each run as long as it can be
abbrev pub first_pair : List ℕ → Pair
first_pair part = record { others = run is_other part; digits = run is_ascii_digit (past is_other part) }

-- what stands behind that pair
abbrev pub behind_pair : List ℕ → List ℕ
behind_pair part = past is_ascii_digit (past is_other part)

-- The ranks of letters, from the lowest: '~', the end of a run, ASCII letters, any other byte that is no digit. The end
-- of a run has the rank that ends a list too.
abbrev pub tilde_rank : ℕ
tilde_rank = 0

abbrev pub end_rank : ℕ
end_rank = 1

abbrev pub alphabetic_rank : ℕ
alphabetic_rank = 2

abbrev pub other_rank : ℕ
other_rank = 3

-- the rank of numbers, which stand where no other letter does
abbrev pub number_rank : ℕ
number_rank = 4

abbrev pub byte_rank : ℕ → ℕ
byte_rank b = if b == tilde then tilde_rank else (if is_ascii_alphabetic b then alphabetic_rank else other_rank)

-- a byte that is no digit
abbrev pub byte_letter : ℕ → Letter
byte_letter b = record { rank = byte_rank b; number = b; text = [] }

-- a number, the empty one being 0
abbrev pub number_letter : List ℕ → Letter
number_letter digits = record { rank = number_rank; number = value digits; text = [] }

-- each byte of the first run, then the run's end, then the number
abbrev pub pair_letters : Pair → List Letter
pair_letters pair = map byte_letter pair.others ++ (end_letter end_rank ∷ number_letter pair.digits ∷ [])

-- the letters of the pair at the front of a part
abbrev pub first_letters : List ℕ → List Letter
first_letters part = pair_letters (first_pair part)

-- the letters of a part, pair by pair, each of which has a byte at least
abbrev pub letters_of : List ℕ → List Letter
letters_of part = scanned first_letters behind_pair part

-- the epoch and each run of digits are within the limit of 128 bits (and so is each byte)
abbrev pub IsWithin : Fields → Type 0
IsWithin v = (v.epoch < 2 ^ 128) × AllByRecursion LetterIsWithin v.upstream × AllByRecursion LetterIsWithin v.revision
