-- VERS, "Normalized, canonical representation and validation": what the printed text of a list spells.
use Rattle.std.specs.Prelude.{◌≡◌, ◌<◌, ℕ, List, [], ◌∷◌, IsUtf8, ⊤}
use Rattle.std.specs.List.{AllByRecursion}
use Rattle.std.specs.declared.cmp.Ordering.{Ordering}
use Rattle.std.specs.declared.cmp.Ordering.TheVariants.{Equal}
use Rattle.vx_scheme.specs.declared.name.SchemeName.{SchemeName}
use Rattle.vx_vers.specs.declared.constraints.Constraint.{Constraint}
use Rattle.vx_vers.specs.Grammar.{EachWithin, SpellsList}

-- the lists have the same comparators, place by place, with order-equal versions
abbrev pub IsSameList : {V : Type 0} → (V → V → Ordering) → List (Constraint V) → List (Constraint V) → Type 0
IsSameList order [] [] = ⊤
IsSameList order [] (d ∷ b) = ⊥
IsSameList order (c ∷ a) [] = ⊥
IsSameList order (c ∷ a) (d ∷ b) = (c.comparator ≡ d.comparator) × (order c.version d.version ≡ Equal) × IsSameList order a b

-- The text spells a list within the limits that is the same.
pub record SpellsSame {V : Type 0} (name : SchemeName) (order : V → V → Ordering) (Spells : List ℕ → V → Type 0) (IsWithin : V → Type 0) (text : List ℕ) (list : List (Constraint V)) : Type 0 where
  pub again : List (Constraint V)
  pub spelled : SpellsList name order Spells text again
  pub within : EachWithin IsWithin again
  pub same : IsSameList order again list

-- a version of the scheme, within the limits, whose normal text is UTF-8
pub record IsWritable {V : Type 0} (IsVersion IsWithin : V → Type 0) (normal : V → List ℕ) (version : V) : Type 0 where
  pub is : IsVersion version
  pub within : IsWithin version
  pub bytes : AllByRecursion (λ b. b < 256) (normal version)
  pub utf8 : IsUtf8 (normal version)

-- each version of the list is one
abbrev pub EachWritable : {V : Type 0} → (V → Type 0) → (V → Type 0) → (V → List ℕ) → List (Constraint V) → Type 0
EachWritable IsVersion IsWithin normal list = AllByRecursion (λ c. IsWritable IsVersion IsWithin normal c.version) list
