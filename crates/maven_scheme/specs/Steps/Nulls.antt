-- Null letters as the program drops them: those at the end of the letters so far.
use Rattle.std.specs.Prelude.{◌-◌, ◌||◌, ◌&&◌, not, Bool, true, false, if◌then◌else◌, List, [], ◌∷◌, ◌++◌, length, slice_get, Option, Some, None}
use Rattle.vx_order.specs.declared.letter.Letter.{Letter}
use Rattle.maven_scheme.specs.Version.{is_dotted, is_null}

-- a letter in front of a list, but nothing where it is null and the list is empty
abbrev pub null_before : Bool → Letter → List Letter → List Letter
null_before true letter [] = []
null_before false letter [] = letter ∷ []
null_before null letter (next ∷ letters) = letter ∷ next ∷ letters

-- the list without the null letters at its end
abbrev pub without_null_end : List Letter → List Letter
without_null_end [] = []
without_null_end (letter ∷ letters) = null_before (is_null letter) letter (without_null_end letters)

-- the list with one letter more: null letters at its end stay only before a number with '.'
abbrev pub with_letter : List Letter → Letter → List Letter
with_letter letters letter = (if is_dotted letter then letters else without_null_end letters) ++ letter ∷ []

abbrev pub null_there : Option Letter → Bool
null_there None = false
null_there (Some letter) = is_null letter

-- the last letter is null
abbrev pub ends_null : List Letter → Bool
ends_null letters = null_there (slice_get letters (length letters - 1))

-- behind a letter that may be null stands nothing or a number with '.', or it is not null
abbrev pub goes_on : Bool → List Letter → Bool
goes_on null [] = true
goes_on null (next ∷ letters) = not null || is_dotted next

-- behind each null letter stands nothing or a number with '.'
abbrev pub is_tidy : List Letter → Bool
is_tidy [] = true
is_tidy (letter ∷ letters) = goes_on (is_null letter) letters && is_tidy letters
