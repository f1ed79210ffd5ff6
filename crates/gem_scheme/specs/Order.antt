-- The order of versions after RubyGems' `Gem::Version#<=>`: by the first place at which the keys of two versions differ.
use Rattle.std.specs.Prelude.{ℕ, ◌==◌, ◌-◌, Bool, false, List, [], ◌++◌, length, map, take}
use Rattle.std.specs.Cmp.{IsTotalOrder, on_total}
use Rattle.std.specs.List.{suffix_len}
use Rattle.std.specs.declared.cmp.Ordering.{Ordering}
use Rattle.vx_scheme.specs.declared.ident.Ident.{Ident}
use Rattle.vx_scheme.specs.declared.ident.Ident.TheVariants.{Number, Word}
use Rattle.vx_order.specs.declared.letter.Letter.{Letter}
use Rattle.vx_order.specs.Letters.{letters_cmp, LettersCompareAs}
use Rattle.vx_order.proofs.LetterLaws.{letters_total}
use Rattle.gem_scheme.specs.Version.{Fields, front, rest}

abbrev pub is_zero : Ident → Bool
is_zero (Number n) = n == 0
is_zero (Word w) = false

-- without the zeros at the end
abbrev pub without_zeros : List Ident → List Ident
without_zeros segments = take (length segments - suffix_len is_zero segments) segments

-- `Gem::Version#canonical_segments`: the zeros at the end of the numbers before the first word, and those at the end of the
-- rest, are dropped
abbrev pub canonical : List Ident → List Ident
canonical segments = without_zeros (front segments) ++ without_zeros (rest segments)

-- a word is below every number
abbrev pub word_rank : ℕ
word_rank = 0

abbrev pub number_rank : ℕ
number_rank = 1

-- words go by their bytes, numbers by their value
abbrev pub segment_letter : Ident → Letter
segment_letter (Number n) = record { rank = number_rank; number = n; text = [] }
segment_letter (Word w) = record { rank = word_rank; number = 0; text = w }

abbrev pub key : Fields → List Letter
key v = map segment_letter (canonical v.segments)

-- How two versions compare: each key goes on without end with the number 0, and the first segments that differ decide.
abbrev pub order_of : Fields → Fields → Ordering
order_of a b = letters_cmp number_rank (key a) (key b)

-- the answer says how the keys compare at the first place where they differ
abbrev pub AnswersKeys : Fields → Fields → Ordering → Type 0
AnswersKeys a b answer = LettersCompareAs number_rank (key a) (key b) answer

pub order_total : IsTotalOrder order_of
order_total = on_total key (letters_total number_rank)
