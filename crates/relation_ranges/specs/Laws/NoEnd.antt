-- What a refusal for want of an end says of a text of relations, of any table whose operators have their two versions.
use Rattle.std.proofs.Common.{◌≡◌, ℕ, Bool, List, Option}
use Rattle.std.specs.declared.cmp.Ordering.{Ordering}
use Rattle.vx_scheme.specs.declared.domain.Domain.{Domain}
use Rattle.vx_scheme.specs.declared.range_fault.EndKind.{EndKind}
use Rattle.vx_scheme.specs.declared.range_fault.RangeFault.TheVariants as fault_of
use Rattle.vx_range.specs.declared.making.Outcome.{Outcome}
use Rattle.vx_range.specs.declared.making.Outcome.TheVariants as made
use Rattle.vx_range.specs.Apart.{AreToldApart}
use Rattle.vx_range.specs.Laws.Apart.{has_no_end}
use Rattle.relation_ranges.specs.NoEnd.{HasNoEnd, relation_tells}
use Rattle.relation_ranges.specs.Range.{Refuses, relation_holds, relation_outcome}
use Rattle.relation_ranges.specs.Reading.{IsCut, ReadsAs, IsPast}

module _ {O V : Type 0} (bar : Option ℕ) (is_sign : ℕ → Bool) (HasSigns : O → List ℕ → Type 0) (Spells : List ℕ → V → Type 0) (first_past : ℕ → List ℕ → Option ℕ)
    (order : V → V → Ordering) (IsVersion : V → Type 0) (InDomain : Domain → V → Type 0) (outcome : Domain → O → V → Outcome) (holds : O → V → V → Bool) (size : V → ℕ) (Tells : ℕ → O → V → V → V → Type 0)
    (spelled_version : (text : List ℕ) (v : V) → Spells text v → IsVersion v)
    (some_told : (domain : Domain) (operator : O) (bound : V) (kind : EndKind) → outcome domain operator bound ≡ made.NoEnd kind → (n : ℕ) → (v : V) × (w : V) × Tells n operator bound v w)
    (told_apart : (domain : Domain) (operator : O) (bound : V) (kind : EndKind) (n : ℕ) (v w : V) → IsVersion bound → outcome domain operator bound ≡ made.NoEnd kind → Tells n operator bound v w → AreToldApart order IsVersion (InDomain domain) size (holds operator bound) n v w) where
  pub relation_no_end : (domain : Domain) (text : List ℕ) (kind : EndKind) (at : ℕ) → Refuses bar is_sign HasSigns Spells first_past outcome domain text (fault_of.NoEndpoint kind at)
      → HasNoEnd bar is_sign HasSigns Spells order IsVersion InDomain outcome holds size Tells domain text kind at
  relation_no_end domain text kind at refused =
      has_no_end (IsCut bar) (ReadsAs is_sign HasSigns Spells) (IsPast is_sign HasSigns Spells first_past) (relation_outcome (outcome domain)) text kind at refused
      order IsVersion (InDomain domain) size (relation_holds holds) (relation_tells Tells)
      (λ relation none other n. some_told domain relation.operator relation.version kind none n)
      (λ relation piece reads none n v w told. told_apart domain relation.operator relation.version kind n v w (spelled_version _ relation.version reads.version) none told)
