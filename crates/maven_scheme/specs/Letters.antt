-- The second and the third step of the POM reference, "Version Order Specification": what the tokens stand for, and which
-- of them count.
use Rattle.std.specs.Prelude.{ℕ, ◌||◌, ◌&&◌, not, Bool, true, if◌then◌else◌, List, [], ◌∷◌, map, codes, bytes_eq}
use Rattle.vx_spec.specs.Numerals.{value}
use Rattle.vx_spec.specs.Runs.{begins}
use Rattle.vx_text.specs.Folding.{lowered}
use Rattle.vx_order.specs.declared.letter.Letter.{Letter}
use Rattle.maven_scheme.specs.Version.{alpha_rank, beta_rank, milestone_rank, candidate_rank, snapshot_rank, empty_rank, service_pack_rank, other_rank, hyphened_rank, dotted_rank, plain_letter, is_dotted, is_null}
use Rattle.maven_scheme.specs.Tokens.{Token, is_word_byte, tokens_of}

-- Shorthands: "a", "b" and "m" stand for "alpha", "beta" and "milestone" where a digit follows directly; "cr" is "rc"; and
-- "final", "ga" and "release" are as good as nothing.
abbrev pub full_name : Bool → List ℕ → List ℕ
full_name before_digit word =
    if before_digit && bytes_eq word (codes "a") then codes "alpha"
    else if before_digit && bytes_eq word (codes "b") then codes "beta"
    else if before_digit && bytes_eq word (codes "m") then codes "milestone"
    else if bytes_eq word (codes "cr") then codes "rc"
    else if bytes_eq word (codes "final") || bytes_eq word (codes "ga") || bytes_eq word (codes "release") then []
    else word

-- a qualifier, in lower case: those that have a rank, and any other one by its bytes
abbrev pub qualifier_letter : List ℕ → Letter
qualifier_letter word =
    if bytes_eq word (codes "alpha") then plain_letter alpha_rank
    else if bytes_eq word (codes "beta") then plain_letter beta_rank
    else if bytes_eq word (codes "milestone") then plain_letter milestone_rank
    else if bytes_eq word (codes "rc") then plain_letter candidate_rank
    else if bytes_eq word (codes "snapshot") then plain_letter snapshot_rank
    else if bytes_eq word [] then plain_letter empty_rank
    else if bytes_eq word (codes "sp") then plain_letter service_pack_rank
    else record { rank = other_rank; number = 0; text = word }

-- a number, by its value
abbrev pub number_letter : Bool → List ℕ → Letter
number_letter is_dotted digits = record { rank = if is_dotted then dotted_rank else hyphened_rank; number = value digits; text = [] }

-- A token is a qualifier, in any case of its letters and whatever its separator is, or a number with its separator. An empty
-- token is 0.
abbrev pub letter_of : Token → Letter
letter_of token =
    if begins is_word_byte token.text
    then qualifier_letter (full_name token.before_digit (lowered token.text))
    else number_letter token.is_dotted token.text

-- "Null" letters are trimmed from the end to the start, at each hyphen: one does not count before nothing, before a number
-- with '-', and before a qualifier, be that the empty one. So it counts before a number with '.' alone.
abbrev pub drops_null : List Letter → Bool
drops_null [] = true
drops_null (letter ∷ kept) = not (is_dotted letter)

-- the letters that count, looked at from the last to the first: all but the null ones before such
abbrev pub without_nulls : List Letter → List Letter
without_nulls [] = []
without_nulls (letter ∷ letters) =
    if is_null letter && drops_null (without_nulls letters) then without_nulls letters else letter ∷ without_nulls letters

-- the letters of a version's text
abbrev pub letters_of : List ℕ → List Letter
letters_of text = without_nulls (map letter_of (tokens_of text))
