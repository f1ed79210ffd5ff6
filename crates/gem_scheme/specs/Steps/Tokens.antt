-- The segments of a text as the program scans it, without writing '-' out.
use Rattle.std.specs.Prelude.{◌==◌, ℕ, if◌then◌else◌, List, [], ◌∷◌, codes}
use Rattle.vx_spec.specs.Signs.{hyphen}
use Rattle.vx_order.specs.Scanning.{token_entries}
use Rattle.vx_scheme.specs.declared.ident.Ident.{Ident}
use Rattle.vx_scheme.specs.declared.ident.Ident.TheVariants.{Number, Word}

-- the segment that a byte stands for which is neither letter nor digit
abbrev pub sign_segments : ℕ → List Ident
sign_segments b = if b == hyphen then Word (codes "pre") ∷ [] else []

-- the segment at the front of a text
abbrev pub front_segments : List ℕ → List Ident
front_segments text = token_entries Number Word sign_segments text
