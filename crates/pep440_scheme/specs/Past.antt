-- Where in the text of a version the first numeral begins that passes the limit of 128 bits, which is this project's own.
use Rattle.std.specs.Prelude.{ℕ, ◌+◌, if◌then◌else◌, List, [], ◌∷◌, length, Option, Some, None}
use Rattle.std.specs.Option.{option_or}
use Rattle.std.specs.List.{slice_split}
use Rattle.vx_spec.specs.Marks.{before_mark, behind_mark}
use Rattle.vx_spec.specs.Runs.{is_blank, without_end}
use Rattle.vx_text.specs.Past.{first_past}
use Rattle.vx_order.specs.PastParts.{is_past_numeral}
use Rattle.vx_spec.specs.Signs.{plus}
use Rattle.pep440_scheme.specs.Spelling.{is_separator}

-- of parts with one byte before each, the first of which stands at this place: where the first begins that is a numeral
-- past the limit
abbrev pub first_past_part : ℕ → List (List ℕ) → Option ℕ
first_past_part at [] = None
first_past_part at (part ∷ parts) = if is_past_numeral part then Some (at + 1) else first_past_part (at + (length part + 1)) parts

-- in a local version label behind its '+' at this place, without the blanks at the end: the parts that are digits alone
abbrev pub first_past_local : ℕ → Option (List ℕ) → Option ℕ
first_past_local at None = None
first_past_local at (Some label) = first_past_part at (slice_split is_separator (without_end is_blank label))

-- In the text of a version that begins at this place: before the label each run of digits is a numeral.
abbrev pub past_numeral_of : ℕ → List ℕ → Option ℕ
past_numeral_of at text =
    option_or (first_past at (before_mark plus text))
    (first_past_local (at + length (before_mark plus text)) (behind_mark plus text))
