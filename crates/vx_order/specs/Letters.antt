-- The order of letters, and of lists of them that are continued without end by one letter; and the limit of their numbers, which
-- is this project's own.
use Rattle.std.specs.Prelude.{◌<◌, ◌^◌, ℕ, Bool, true, false, List, [], ◌∷◌}
use Rattle.std.specs.Cmp.Lexicographic.{slice_cmp}
use Rattle.std.specs.Ordering.{nat_cmp, on, then_cmp, is_eq}
use Rattle.std.specs.declared.cmp.Ordering.{Ordering}
use Rattle.vx_spec.specs.Places.{ComparesAs, endless}
use Rattle.vx_spec.specs.Rows.{rows_cmp}
use Rattle.vx_order.specs.declared.letter.Letter.{Letter}

-- by rank, then by number, then by the bytes of the text
abbrev pub letter_cmp : Letter → Letter → Ordering
letter_cmp = then_cmp (on (λ l. l.rank) nat_cmp) (then_cmp (on (λ l. l.number) nat_cmp) (on (λ l. l.text) (slice_cmp nat_cmp)))

-- the letter that a list is continued by
abbrev pub end_letter : ℕ → Letter
end_letter rank = record { rank = rank; number = 0; text = [] }

-- how two lists compare, each continued by the letter of the end rank: the first letters that differ decide
abbrev pub letters_cmp : ℕ → List Letter → List Letter → Ordering
letters_cmp end_rank = rows_cmp letter_cmp (end_letter end_rank)

-- the answer says how the two, continued without end, compare at their first place of difference
abbrev pub LettersCompareAs : ℕ → List Letter → List Letter → Ordering → Type 0
LettersCompareAs end_rank a b answer = ComparesAs letter_cmp (endless (end_letter end_rank) a) (endless (end_letter end_rank) b) answer

-- a letter in front of a list, but nothing where it is the end letter and the list is empty
abbrev pub letter_before : Bool → Letter → List Letter → List Letter
letter_before true letter [] = []
letter_before false letter [] = letter ∷ []
letter_before is_end letter (next ∷ letters) = letter ∷ next ∷ letters

-- the list without the end letters at its end
abbrev pub without_end_letters : ℕ → List Letter → List Letter
without_end_letters end_rank [] = []
without_end_letters end_rank (letter ∷ letters) = letter_before (is_eq (letter_cmp letter (end_letter end_rank))) letter (without_end_letters end_rank letters)

-- a letter's number is within the limit of 128 bits
abbrev pub LetterIsWithin : Letter → Type 0
LetterIsWithin letter = letter.number < 2 ^ 128
