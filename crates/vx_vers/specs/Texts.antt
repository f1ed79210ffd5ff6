-- VERS, "Normalized, canonical representation and validation": the printed text of a list of constraints: `vers:`, the
-- scheme's name, `/`, and the constraints in order, parted by `|`. `=` is written without a sign. Each version is its
-- normal text, escaped. The empty list is printed as `*`.
use Rattle.std.specs.Prelude.{ℕ, List, [], ◌∷◌, ◌++◌, map, codes}
use Rattle.std.specs.List.{join_with_byte}
use Rattle.vx_scheme.specs.declared.name.SchemeName.{SchemeName}
use Rattle.vx_scheme.specs.Names.{text_of}
use Rattle.vx_text.specs.Escapes.{escaped}
use Rattle.vx_vers.specs.declared.constraints.Comparator.{Comparator}
use Rattle.vx_vers.specs.declared.constraints.Comparator.TheVariants.{Equal as EqualTo, NotEqual as NotEqualTo, Less as LessThan, LessEqual as AtMost, Greater as GreaterThan, GreaterEqual as AtLeast}
use Rattle.vx_vers.specs.declared.constraints.Constraint.{Constraint}

abbrev pub sign : Comparator → List ℕ
sign EqualTo = []
sign NotEqualTo = codes "!="
sign LessThan = codes "<"
sign AtMost = codes "<="
sign GreaterThan = codes ">"
sign AtLeast = codes ">="

-- `normal` gives a version's normal text
abbrev pub constraint_text : {V : Type 0} → (V → List ℕ) → Constraint V → List ℕ
constraint_text normal c = sign c.comparator ++ escaped (normal c.version)

-- '|' is 124
abbrev pub constraints_text : {V : Type 0} → (V → List ℕ) → List (Constraint V) → List ℕ
constraints_text normal [] = codes "*"
constraints_text normal (c ∷ list) = join_with_byte 124 (map (constraint_text normal) (c ∷ list))

abbrev pub vers_text : {V : Type 0} → SchemeName → (V → List ℕ) → List (Constraint V) → List ℕ
vers_text name normal list = (codes "vers:" ++ text_of name) ++ (codes "/" ++ constraints_text normal list)
