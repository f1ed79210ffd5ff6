-- The parts of a text as the program holds them.
use Rattle.std.specs.Prelude.{◌+◌, ◌<◌, ◌^◌, ℕ, List, [], ◌∷◌, length, Option, Some, None}
use Rattle.std.specs.Option.{option_copied}
use Rattle.purl_core.specs.Grammar.{Parts}
use Rattle.purl_core.specs.Places.{path_at, placed_parts, with_sign}
use Rattle.purl_core.specs.declared.placing.Part.{Part}
use Rattle.purl_core.specs.declared.placing.Walk.{Walk}

-- the place and the bytes of a part
abbrev pub part_view : Part → ℕ × List ℕ
part_view part = (part.at, part.bytes.now)

-- a part, where there is one
abbrev pub listed_part : Option Part → List (ℕ × List ℕ)
listed_part None = []
listed_part (Some part) = part_view part ∷ []

-- the parts that are left of a walk
abbrev pub left : Walk → List (ℕ × List ℕ)
left walk = placed_parts walk.at walk.mark (option_copied walk.rest)

-- what is left ends at a place
abbrev pub IsWithin : Walk → Type 0
IsWithin walk = walk.at + with_sign (option_copied walk.rest) < 2 ^ 64

-- the part ends at a place
abbrev pub EndsWithin : Part → Type 0
EndsWithin part = part.at + length part.bytes.now < 2 ^ 64

-- the bytes of a text that is written of these parts
abbrev pub size : Parts → ℕ
size p = path_at p + length p.path + with_sign p.version + with_sign p.qualifiers + with_sign p.subpath
