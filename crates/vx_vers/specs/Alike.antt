-- Versions that a list of constraints does not tell apart.
use Rattle.std.specs.Prelude.{◌≡◌, List}
use Rattle.std.specs.List.{AllByRecursion}
use Rattle.std.specs.declared.cmp.Ordering.{Ordering}
use Rattle.vx_vers.specs.declared.constraints.Constraint.{Constraint}

-- each version of the list compares alike with both: it is below both, order-equal to both, or above both
abbrev pub EachAlike : {V : Type 0} → (V → V → Ordering) → List (Constraint V) → V → V → Type 0
EachAlike order list v w = AllByRecursion (λ c. order c.version v ≡ order c.version w) list
