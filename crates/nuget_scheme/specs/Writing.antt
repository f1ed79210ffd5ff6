-- The normal text of a version after NuGet's page "Package versioning", "Normalized version numbers".
use Rattle.std.specs.Prelude.{◌==◌, ℕ, List, [], ◌∷◌, ◌++◌, map, if◌then◌else◌}
use Rattle.std.specs.List.{join_with_byte}
use Rattle.vx_spec.specs.Numerals.{numeral_text}
use Rattle.vx_spec.specs.Signs.{dot, hyphen}
use Rattle.vx_order.specs.Dotted.{tail}
use Rattle.vx_order.specs.Identifiers.{identifier_text}
use Rattle.nuget_scheme.specs.Version.{Fields}

-- a fourth number of zero is left out
abbrev pub fourth_part : ℕ → List ℕ
fourth_part n = if n == 0 then [] else n ∷ []

-- the numbers that are written
abbrev pub numbers : Fields → List ℕ
numbers v = v.major ∷ v.minor ∷ v.patch ∷ fourth_part v.fourth

-- their numerals joined by '.'
abbrev pub numbers_text : Fields → List ℕ
numbers_text v = join_with_byte dot (map numeral_text (numbers v))

-- and, where there are labels, '-' and the labels joined by '.'
abbrev pub normal : Fields → List ℕ
normal v = numbers_text v ++ tail hyphen (map identifier_text v.labels)
