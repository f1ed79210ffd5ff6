-- Lists in strictly ascending order.
use Rattle.std.specs.Prelude.{◌≡◌, List, [], ◌∷◌}
use Rattle.std.specs.List.{AllByRecursion}
use Rattle.std.specs.declared.cmp.Ordering.{Ordering}
use Rattle.std.specs.declared.cmp.Ordering.TheVariants.{Less}

-- each item is below those behind it
abbrev pub IsAscending : {C : Type 0} → (C → C → Ordering) → List C → Type 0
IsAscending cmp [] = Unit {0}
IsAscending cmp (item ∷ items) = AllByRecursion (λ later. cmp item later ≡ Less) items × IsAscending cmp items
