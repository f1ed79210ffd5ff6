-- The printed text of a package URL (ECMA-427, building a package URL string from its components).
use Rattle.std.specs.Prelude.{◌++◌, ℕ, List, [], ◌∷◌, map, Option, Some, None, codes}
use Rattle.std.specs.List.{join_with_byte}
use Rattle.std.specs.Option.{option_map}
use Rattle.vx_spec.specs.Marks.{marked}
use Rattle.vx_text.specs.Escapes.{escaped}
use Rattle.purl_core.specs.Value.{Package}

-- the parts, joined by the mark, where there are any
abbrev pub joined_parts : ℕ → List (List ℕ) → Option (List ℕ)
joined_parts mark [] = None
joined_parts mark (part ∷ parts) = Some (join_with_byte mark (part ∷ parts))

-- the key, '=' and the escaped value
abbrev pub pair_text : List ℕ × List ℕ → List ℕ
pair_text pair = pair.0 ++ (codes "=" ++ escaped pair.1)

-- the escaped segments and the escaped name, with '/' between them
abbrev pub path_text : Package → List ℕ
path_text p = join_with_byte 47 (map escaped (p.namespace ++ p.name ∷ []))

-- 'pkg:', the type, '/', the path, and '@' and the escaped version where there is one
abbrev pub body_text : Package → List ℕ
body_text p = codes "pkg:" ++ (p.kind ++ (codes "/" ++ path_text p ++ marked 64 (option_map escaped p.version)))

-- the body; '?' and the pairs with '&' between them, and '#' and the escaped subpath, each where there are any
abbrev pub purl_text : Package → List ℕ
purl_text p = body_text p ++ marked 63 (joined_parts 38 (map pair_text p.qualifiers)) ++ marked 35 (joined_parts 47 (map escaped p.subpath))
