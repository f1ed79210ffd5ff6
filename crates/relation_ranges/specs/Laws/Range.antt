-- The laws of a range language of relations, of any table whose operators and spans have theirs: a text has one reading, and one
-- first refusal in a domain.
use Rattle.std.proofs.Common.{◌≡◌, ℕ, Bool, List, Option}
use Rattle.std.specs.declared.cmp.Ordering.{Ordering}
use Rattle.vx_scheme.specs.declared.domain.Domain.{Domain}
use Rattle.vx_scheme.specs.declared.range_fault.RangeFault.{RangeFault}
use Rattle.vx_scheme.specs.declared.span.Span.{Span}
use Rattle.vx_scheme.specs.Cuts.{in_spans}
use Rattle.vx_scheme.specs.Native.{RangeLaws}
use Rattle.vx_range.specs.declared.making.Outcome.{Outcome}
use Rattle.vx_range.specs.declared.making.Outcome.TheVariants as made
use Rattle.vx_range.specs.Laws.OneRefusal.{reads_one, refuses_one}
use Rattle.vx_range.specs.Laws.Ranges.{term_ranges}
use Rattle.relation_ranges.specs.declared.relations.Relation.{Relation}
use Rattle.relation_ranges.specs.Reading.{IsCut, ReadsAs, IsPast, Reads}
use Rattle.relation_ranges.specs.Range.{relation_holds, relation_spans, relation_outcome, IsRange, In, Makes, Refuses}
use Rattle.relation_ranges.specs.Laws.Reading.{cut_laws, piece_laws}

module _ {O V : Type 0} (bar : Option ℕ) (is_sign : ℕ → Bool) (HasSigns : O → List ℕ → Type 0) (Spells : List ℕ → V → Type 0) (first_past : ℕ → List ℕ → Option ℕ)
    (one_operator : (signs : List ℕ) (a b : O) → HasSigns a signs → HasSigns b signs → a ≡ b) (spells_one : (text : List ℕ) (v w : V) → Spells text v → Spells text w → v ≡ w) where
  pub one_reads : (text : List ℕ) (a b : List (List (Relation O V))) → Reads bar is_sign HasSigns Spells text a → Reads bar is_sign HasSigns Spells text b → a ≡ b
  one_reads =
      reads_one (ReadsAs is_sign HasSigns Spells) (IsPast is_sign HasSigns Spells first_past) (piece_laws is_sign HasSigns Spells first_past one_operator spells_one) (IsCut bar) (cut_laws bar)

  pub one_refusal : (outcome : Domain → O → V → Outcome) (domain : Domain) (text : List ℕ) (a b : RangeFault)
      → Refuses bar is_sign HasSigns Spells first_past outcome domain text a → Refuses bar is_sign HasSigns Spells first_past outcome domain text b → a ≡ b
  one_refusal outcome domain =
      refuses_one (ReadsAs is_sign HasSigns Spells) (IsPast is_sign HasSigns Spells first_past) (piece_laws is_sign HasSigns Spells first_past one_operator spells_one) (IsCut bar) (cut_laws bar) (relation_outcome (outcome domain))

  pub range_laws : (order : V → V → Ordering) (IsVersion : V → Type 0) (InDomain : Domain → V → Type 0) (Offers : Domain → Type 0)
      (outcome : Domain → O → V → Outcome) (spans : Domain → ℕ → O → V → List (Span V)) (holds : O → V → V → Bool)
      → ((domain : Domain) (mark : ℕ) (operator : O) (bound v : V) → IsVersion v → InDomain domain v → outcome domain operator bound ≡ made.Spans → in_spans order (spans domain mark operator bound) v ≡ holds operator bound v)
      → RangeLaws order IsVersion InDomain Offers (IsRange bar is_sign HasSigns Spells) (In bar is_sign HasSigns Spells holds) (Makes bar is_sign HasSigns Spells first_past outcome spans) (Refuses bar is_sign HasSigns Spells first_past outcome)
  range_laws order IsVersion InDomain Offers outcome spans holds agrees =
      term_ranges order IsVersion InDomain Offers (IsCut bar) (ReadsAs is_sign HasSigns Spells) (IsPast is_sign HasSigns Spells first_past) (cut_laws bar)
      (piece_laws is_sign HasSigns Spells first_past one_operator spells_one) (λ domain. relation_outcome (outcome domain)) (λ domain. relation_spans (spans domain)) (relation_holds holds)
      (λ domain mark relation v. agrees domain mark relation.operator relation.version v)
