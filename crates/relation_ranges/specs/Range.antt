-- A range language of relations: which versions are in a text, which bounds the text makes in a domain, and what it is
-- refused for. What its operators mean is given: `holds operator version v` says whether `v` is as the operator with its
-- version asks, `spans` are the spans that the two make, from a first mark on, and `outcome` says whether they make any,
-- or for which cause not.
use Rattle.std.specs.Prelude.{ℕ, Bool, List, Option}
use Rattle.vx_scheme.specs.declared.domain.Domain.{Domain}
use Rattle.vx_scheme.specs.declared.range_fault.RangeFault.{RangeFault}
use Rattle.vx_scheme.specs.declared.span.Span.{Span}
use Rattle.vx_range.specs.declared.making.Outcome.{Outcome}
use Rattle.vx_range.specs.Making.{terms_of, terms_hold}
use Rattle.vx_range.specs.Ranges as ranges
use Rattle.relation_ranges.specs.declared.relations.Relation.{Relation}
use Rattle.relation_ranges.specs.Reading.{IsCut, ReadsAs, IsPast}

-- what is given of an operator and its version, said of a relation, which has the two
abbrev pub relation_holds : {O V : Type 0} → (O → V → V → Bool) → Relation O V → V → Bool
relation_holds holds relation v = holds relation.operator relation.version v

abbrev pub relation_spans : {O V : Type 0} → (ℕ → O → V → List (Span V)) → ℕ → Relation O V → List (Span V)
relation_spans spans mark relation = spans mark relation.operator relation.version

abbrev pub relation_outcome : {O V : Type 0} → (O → V → Outcome) → Relation O V → Outcome
relation_outcome outcome relation = outcome relation.operator relation.version

module _ {O V : Type 0} (bar : Option ℕ) (is_sign : ℕ → Bool) (HasSigns : O → List ℕ → Type 0) (Spells : List ℕ → V → Type 0) where
  -- the text has a reading
  abbrev pub IsRange : List ℕ → Type 0
  IsRange text = ranges.IsRange (IsCut bar) (ReadsAs is_sign HasSigns Spells) text

  -- the version is in the text: some relation of each term holds of it
  abbrev pub In : (O → V → V → Bool) → List ℕ → V → Type 0
  In holds text v = ranges.In (IsCut bar) (ReadsAs is_sign HasSigns Spells) (terms_hold (relation_holds holds)) text v

  -- what the text makes: its terms are terms of the relations' spans, with marks from 0
  abbrev pub Makes : (ℕ → List ℕ → Option ℕ) → (Domain → O → V → Outcome) → (Domain → ℕ → O → V → List (Span V)) → Domain → List ℕ → List (List (List (Span V))) → Type 0
  Makes first_past outcome spans domain text bounds =
      ranges.MakesBounds (IsCut bar) (ReadsAs is_sign HasSigns Spells) (IsPast is_sign HasSigns Spells first_past) (relation_outcome (outcome domain)) (terms_of (relation_spans (spans domain))) text bounds

  -- the first refusal of the text
  abbrev pub Refuses : (ℕ → List ℕ → Option ℕ) → (Domain → O → V → Outcome) → Domain → List ℕ → RangeFault → Type 0
  Refuses first_past outcome domain text fault =
      ranges.RefusesText (IsCut bar) (ReadsAs is_sign HasSigns Spells) (IsPast is_sign HasSigns Spells first_past) (relation_outcome (outcome domain)) text fault
