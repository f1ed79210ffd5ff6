-- VERS, "Normalized, canonical representation and validation": constraints in the order of their versions.
use Rattle.std.specs.Prelude.{◌≡◌, List, [], ◌∷◌}
use Rattle.std.specs.declared.cmp.Ordering.{Ordering}
use Rattle.std.specs.declared.cmp.Ordering.TheVariants.{Less}
use Rattle.vx_spec.specs.Ascending.{IsAscending}
use Rattle.vx_vers.specs.declared.constraints.Constraint.{Constraint}

-- constraints compare by their versions
abbrev pub version_cmp : {V : Type 0} → (V → V → Ordering) → Constraint V → Constraint V → Ordering
version_cmp order a b = order a.version b.version

-- the version of each constraint is below those of the constraints behind it
abbrev pub IsSorted : {V : Type 0} → (V → V → Ordering) → List (Constraint V) → Type 0
IsSorted order list = IsAscending (version_cmp order) list

-- the version is above that of the last constraint, if there is one
abbrev pub IsAboveLast : {V : Type 0} → (V → V → Ordering) → List (Constraint V) → V → Type 0
IsAboveLast order [] version = Unit {0}
IsAboveLast order (first ∷ []) version = order first.version version ≡ Less
IsAboveLast order (first ∷ next ∷ rest) version = IsAboveLast order (next ∷ rest) version
