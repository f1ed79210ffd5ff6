-- The type table: what each type says of its namespaces and its names (ECMA-427, the type definitions).
use Rattle.std.specs.Prelude.{ℕ, if◌then◌else◌, List, [], ◌∷◌, codes}
use Rattle.std.specs.Str.{bytes_eq}
use Rattle.purl_types.specs.declared.table.Folding.{Folding}
use Rattle.purl_types.specs.declared.table.Folding.TheVariants.{Kept, Lowered, Dashed}
use Rattle.purl_types.specs.declared.table.Row.{Row}

-- a type with how it folds a namespace's segments and a name
abbrev pub entry : List ℕ → Folding → Folding → List ℕ × Row
entry kind namespace name = (kind, record { namespace = namespace; name = name })

-- the types that fold something
abbrev pub table : List (List ℕ × Row)
table =
    entry (codes "pypi") Kept Dashed
    ∷ entry (codes "github") Lowered Lowered
    ∷ entry (codes "bitbucket") Lowered Lowered
    ∷ entry (codes "golang") Lowered Lowered
    ∷ entry (codes "composer") Lowered Lowered
    ∷ entry (codes "deb") Lowered Lowered
    ∷ entry (codes "npm") Lowered Lowered
    ∷ entry (codes "rpm") Lowered Kept
    ∷ []

-- the row of a type; every other type keeps both
abbrev pub row_in : List (List ℕ × Row) → List ℕ → Row
row_in [] kind = record { namespace = Kept; name = Kept }
row_in (row ∷ rows) kind = if bytes_eq kind row.0 then row.1 else row_in rows kind

abbrev pub row_of : List ℕ → Row
row_of kind = row_in table kind
