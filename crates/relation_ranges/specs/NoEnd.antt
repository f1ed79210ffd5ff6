-- What a refusal for want of an end says of a text of relations. `size` is that of a version, and `Tells` says for a number which
-- two versions an operator with its version tells apart.
use Rattle.std.specs.Prelude.{ℕ, Bool, List, Option}
use Rattle.std.specs.declared.cmp.Ordering.{Ordering}
use Rattle.vx_scheme.specs.declared.domain.Domain.{Domain}
use Rattle.vx_scheme.specs.declared.range_fault.EndKind.{EndKind}
use Rattle.vx_range.specs.declared.making.Outcome.{Outcome}
use Rattle.vx_range.specs.Apart as ends
use Rattle.relation_ranges.specs.declared.relations.Relation.{Relation}
use Rattle.relation_ranges.specs.Range.{relation_holds, relation_outcome}
use Rattle.relation_ranges.specs.Reading.{IsCut, ReadsAs}

-- the two versions of a relation
abbrev pub relation_tells : {O V : Type 0} → (ℕ → O → V → V → V → Type 0) → ℕ → Relation O V → V → V → Type 0
relation_tells Tells n relation v w = Tells n relation.operator relation.version v w

module _ {O V : Type 0} (bar : Option ℕ) (is_sign : ℕ → Bool) (HasSigns : O → List ℕ → Type 0) (Spells : List ℕ → V → Type 0) where
  -- the relation that begins at this place has no end of this kind in the domain, and tells versions of the domain apart
  abbrev pub HasNoEnd : (V → V → Ordering) → (V → Type 0) → (Domain → V → Type 0) → (Domain → O → V → Outcome) → (O → V → V → Bool) → (V → ℕ) → (ℕ → O → V → V → V → Type 0) → Domain → List ℕ → EndKind → ℕ → Type 0
  HasNoEnd order IsVersion InDomain outcome holds size Tells domain text kind at =
      ends.HasNoEnd order IsVersion (InDomain domain) size (IsCut bar) (ReadsAs is_sign HasSigns Spells) (relation_outcome (outcome domain)) (relation_holds holds) (relation_tells Tells) text kind at
