-- Where in the text of a version the first numeral begins that passes the limit of 128 bits, which is this project's own.
use Rattle.std.specs.Prelude.{ℕ, ◌+◌, List, length, Option}
use Rattle.std.specs.Option.{option_or}
use Rattle.vx_spec.specs.Marks.{before_mark, behind_mark}
use Rattle.vx_spec.specs.Signs.{hyphen, plus}
use Rattle.vx_order.specs.Dotted.{dotted, pieces}
use Rattle.vx_order.specs.PastParts.{first_past_part}

-- in what stands before the build: among the numbers, which stand before the first '-', and then the labels behind it
abbrev pub first_past_front : ℕ → List ℕ → Option ℕ
first_past_front at front =
    option_or (first_past_part at (dotted (before_mark hyphen front)))
    (first_past_part (at + length (before_mark hyphen front) + 1) (pieces (behind_mark hyphen front)))

-- In the text of a version that begins at this place. What stands in the build is no number.
abbrev pub past_numeral_of : ℕ → List ℕ → Option ℕ
past_numeral_of at text = first_past_front at (before_mark plus text)
