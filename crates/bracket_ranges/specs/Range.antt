-- A range language of brackets, after the POM Reference, "Dependency Version Requirement Specification", and NuGet's "Package
-- versioning", "Version ranges": which versions are in a text, which bounds the text makes, and what it is refused for. All
-- brackets of a text are one term: their spans are united.
use Rattle.std.specs.Prelude.{ℕ, Bool, List, Option}
use Rattle.std.specs.declared.cmp.Ordering.{Ordering}
use Rattle.vx_scheme.specs.declared.domain.Domain.{Domain}
use Rattle.vx_scheme.specs.declared.range_fault.RangeFault.{RangeFault}
use Rattle.vx_scheme.specs.declared.span.Span.{Span}
use Rattle.vx_range.specs.Making.{terms_of, terms_hold}
use Rattle.vx_range.specs.Reading as reading
use Rattle.vx_range.specs.Ranges as ranges
use Rattle.bracket_ranges.specs.declared.bracket.Bracket.{Bracket}
use Rattle.bracket_ranges.specs.Cutting.{IsCut}
use Rattle.bracket_ranges.specs.Reading.{ReadsAs, IsPast}
use Rattle.bracket_ranges.specs.Holds.{holds}
use Rattle.bracket_ranges.specs.Spans.{spans_of, outcome}

module _ {V : Type 0} (lists : Bool) (alone : V → Bracket V) (Spells : List ℕ → V → Type 0) where
  -- the text has this reading, with numerals of any length
  abbrev pub Reads : List ℕ → List (List (Bracket V)) → Type 0
  Reads text all = reading.Reads (IsCut lists) (ReadsAs Spells alone) text all

  -- the text has a reading
  abbrev pub IsRange : List ℕ → Type 0
  IsRange text = ranges.IsRange (IsCut lists) (ReadsAs Spells alone) text

  -- the version is in the text: one of its brackets holds of it
  abbrev pub In : (V → V → Ordering) → List ℕ → V → Type 0
  In order text v = ranges.In (IsCut lists) (ReadsAs Spells alone) (terms_hold (holds order)) text v

  -- what the text makes, the same in each domain: one term of the brackets' spans, with marks from 0
  abbrev pub Makes : (ℕ → List ℕ → Option ℕ) → (V → V → Ordering) → Domain → List ℕ → List (List (List (Span V))) → Type 0
  Makes first_past order domain text bounds =
      ranges.MakesBounds (IsCut lists) (ReadsAs Spells alone) (IsPast Spells first_past) (outcome domain) (terms_of (spans_of order)) text bounds

  -- the first refusal of the text, the same in each domain
  abbrev pub Refuses : (ℕ → List ℕ → Option ℕ) → Domain → List ℕ → RangeFault → Type 0
  Refuses first_past domain text fault =
      ranges.RefusesText (IsCut lists) (ReadsAs Spells alone) (IsPast Spells first_past) (outcome domain) text fault
