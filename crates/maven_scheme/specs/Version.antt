-- A version after the POM reference, "Version Order Specification": its fields, with numbers of any size and texts as their
-- bytes; the ranks of the letters that it compares by; and the limit of numerals.
use Rattle.std.specs.Prelude.{ℕ, ◌==◌, ◌<◌, ◌^◌, ◌||◌, ◌&&◌, Bool, List, []}
use Rattle.std.specs.List.{AllByRecursion}
use Rattle.vx_order.specs.Letters.{LetterIsWithin}
use Rattle.vx_order.specs.declared.letter.Letter.{Letter}

-- the fields: the text as it is written, and its letters
pub record Fields : Type 0 where
  pub text : List ℕ
  pub letters : List Letter

-- The ranks of letters, from the lowest: "alpha" < "beta" < "milestone" < "rc" < "snapshot" < the end of a list < "" < "sp" <
-- any other qualifier < a number with '-' < a number with '.'.
abbrev pub alpha_rank : ℕ
alpha_rank = 0

abbrev pub beta_rank : ℕ
beta_rank = 1

abbrev pub milestone_rank : ℕ
milestone_rank = 2

abbrev pub candidate_rank : ℕ
candidate_rank = 3

abbrev pub snapshot_rank : ℕ
snapshot_rank = 4

abbrev pub end_rank : ℕ
end_rank = 5

abbrev pub empty_rank : ℕ
empty_rank = 6

abbrev pub service_pack_rank : ℕ
service_pack_rank = 7

abbrev pub other_rank : ℕ
other_rank = 8

abbrev pub hyphened_rank : ℕ
hyphened_rank = 9

abbrev pub dotted_rank : ℕ
dotted_rank = 10

-- a letter that is told by its rank alone
abbrev pub plain_letter : ℕ → Letter
plain_letter rank = record { rank = rank; number = 0; text = [] }

-- a number with '.'
abbrev pub is_dotted : Letter → Bool
is_dotted letter = letter.rank == dotted_rank

-- a number with either separator
abbrev pub is_number : Letter → Bool
is_number letter = letter.rank == hyphened_rank || is_dotted letter

-- "null" values: the number 0 and the empty qualifier
abbrev pub is_null : Letter → Bool
is_null letter = (letter.rank == empty_rank || is_number letter) && letter.number == 0

-- each run of digits is within the limit of 128 bits
abbrev pub IsWithin : Fields → Type 0
IsWithin v = AllByRecursion LetterIsWithin v.letters
