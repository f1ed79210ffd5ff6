-- Where in the text of a version the first numeral begins that passes the limit of 128 bits, which is this project's own.
use Rattle.std.specs.Prelude.{ℕ, ◌∷◌, Option}
use Rattle.vx_order.specs.PastParts.{first_past_part}
use Rattle.npm_scheme.specs.Spelling.{Parts}

-- In the text of a version that begins at this place: among the three numbers and the pre-release identifiers. What
-- stands in the build is no number.
abbrev pub past_numeral_of : ℕ → Parts → Option ℕ
past_numeral_of at p = first_past_part at (p.major ∷ p.minor ∷ p.patch ∷ p.pre)
