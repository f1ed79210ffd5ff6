-- A version after RubyGems' `Gem::Version`: its segments, with numbers of any size and words as their bytes; when they are a
-- version's; its release and its bump; and the limit of numerals.
use Rattle.std.specs.Prelude.{◌≡◌, ℕ, ◌+◌, Bool, true, false, List, [], ◌∷◌, take, drop}
use Rattle.std.specs.Char.{is_ascii_alphabetic}
use Rattle.std.specs.List.{AllByRecursion, list_all, prefix_len}
use Rattle.vx_spec.specs.Runs.{is_made_of}
use Rattle.vx_scheme.specs.declared.ident.Ident.{Ident}
use Rattle.vx_scheme.specs.declared.ident.Ident.TheVariants.{Number, Word}
use Rattle.vx_order.specs.Identifiers.{IdentIsWithin}

-- the fields: the segments, each a number or a word
pub record Fields : Type 0 where
  pub segments : List Ident

abbrev pub is_number : Ident → Bool
is_number (Number n) = true
is_number (Word w) = false

-- a number is any number, and a word is one letter or more
abbrev pub is_segment : Ident → Bool
is_segment (Number n) = true
is_segment (Word w) = is_made_of is_ascii_alphabetic w

-- the first segment is a number
abbrev pub begins_with_number : List Ident → Bool
begins_with_number [] = false
begins_with_number (segment ∷ segments) = is_number segment

-- The segments are a version's: the first is a number, and each has its form.
pub record IsVersion (v : Fields) : Type 0 where
  pub first : begins_with_number v.segments ≡ true
  pub segments : list_all is_segment v.segments ≡ true

-- a segment's number is within the limit of 128 bits
abbrev pub SegmentIsWithin : Ident → Type 0
SegmentIsWithin segment = IdentIsWithin segment

-- each number of the version is within the limit of 128 bits
abbrev pub IsWithin : Fields → Type 0
IsWithin v = AllByRecursion SegmentIsWithin v.segments

-- `Gem::Version#prerelease?`: a version with a word in it is a pre-release; any other is a release
abbrev pub IsRelease : Fields → Type 0
IsRelease v = list_all is_number v.segments ≡ true

-- the numbers before the first word
abbrev pub front : List Ident → List Ident
front segments = take (prefix_len is_number segments) segments

-- the first word and all behind it
abbrev pub rest : List Ident → List Ident
rest segments = drop (prefix_len is_number segments) segments

-- `Gem::Version#release`: the version without its first word and all behind it
abbrev pub release_of : Fields → Fields
release_of v = record { segments = front v.segments }

-- without the last segment
abbrev pub but_last : List Ident → List Ident
but_last [] = []
but_last (last ∷ []) = []
but_last (segment ∷ next ∷ segments) = segment ∷ but_last (next ∷ segments)

-- without the last segment where there are two or more
abbrev pub shortened : List Ident → List Ident
shortened [] = []
shortened (only ∷ []) = only ∷ []
shortened (first ∷ second ∷ segments) = but_last (first ∷ second ∷ segments)

-- a number raised by one
abbrev pub raised : Ident → Ident
raised (Number n) = Number (n + 1)
raised (Word w) = Word w

-- the last segment raised by one
abbrev pub last_raised : List Ident → List Ident
last_raised [] = []
last_raised (last ∷ []) = raised last ∷ []
last_raised (segment ∷ next ∷ segments) = segment ∷ last_raised (next ∷ segments)

-- `Gem::Version#bump`: of the numbers before the first word the last is dropped where there are two or more, and the one
-- that is then the last is raised by one
abbrev pub bump_of : Fields → Fields
bump_of v = record { segments = last_raised (shortened (front v.segments)) }

-- the number that is raised, 0 where there is none
abbrev pub last_number : List Ident → ℕ
last_number [] = 0
last_number (Number n ∷ []) = n
last_number (Word w ∷ []) = 0
last_number (segment ∷ next ∷ segments) = last_number (next ∷ segments)

abbrev pub number_to_raise : Fields → ℕ
number_to_raise v = last_number (shortened (front v.segments))
