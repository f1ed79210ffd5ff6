-- The normal text of a version after Semantic Versioning 2.0, items 2 and 9, which leaves the build (item 10) out.
use Rattle.std.specs.Prelude.{ℕ, List, ◌++◌, map}
use Rattle.vx_spec.specs.Numerals.{numeral_text}
use Rattle.vx_spec.specs.Signs.{hyphen}
use Rattle.vx_order.specs.Dotted.{tail}
use Rattle.vx_order.specs.Identifiers.{identifier_text}
use Rattle.npm_scheme.specs.Version.{Fields}
use Rattle.npm_scheme.specs.Spelling.{core}

-- the three numerals joined by '.'
abbrev pub numbers_text : Fields → List ℕ
numbers_text v = core (numeral_text v.major) (numeral_text v.minor) (numeral_text v.patch)

-- and, where there is a pre-release, '-' and its identifiers joined by '.'
abbrev pub normal : Fields → List ℕ
normal v = numbers_text v ++ tail hyphen (map identifier_text v.pre)
