-- The normal text of a version: its segments (`Gem::Version#segments`) joined by '.'.
use Rattle.std.specs.Prelude.{ℕ, List, map}
use Rattle.std.specs.List.{join_with_byte}
use Rattle.vx_scheme.specs.declared.ident.Ident.{Ident}
use Rattle.vx_spec.specs.Signs.{dot}
use Rattle.vx_order.specs.Identifiers.{identifier_text}
use Rattle.gem_scheme.specs.Version.{Fields}

-- a number's numeral without leading zeros, and a word as it stands
abbrev pub segment_text : Ident → List ℕ
segment_text segment = identifier_text segment

abbrev pub normal : Fields → List ℕ
normal v = join_with_byte dot (map segment_text v.segments)
