-- Debian's range language, Debian Policy, 7.1: which versions are in a text, which spans the text makes, and what it is refused
-- for.
use Rattle.std.specs.Prelude.{ℕ, List, Some}
use Rattle.vx_scheme.specs.declared.domain.Domain.{Domain}
use Rattle.vx_scheme.specs.declared.range_fault.RangeFault.{RangeFault}
use Rattle.vx_scheme.specs.declared.span.Span.{Span}
use Rattle.vx_text.specs.Past.{first_past}
use Rattle.deb_scheme.specs.Version.{Fields}
use Rattle.deb_scheme.specs.Spelling.{Spells}
use Rattle.relation_ranges.specs.Range as relations
use Rattle.relation_ranges.specs.Deb.Operators.{HasSigns, bar}
use Rattle.relation_ranges.specs.Comparison.{is_sign}
use Rattle.relation_ranges.specs.Deb.Holds.{holds}
use Rattle.relation_ranges.specs.Deb.Spans.{spans_of}
use Rattle.relation_ranges.specs.Deb.Refusals.{outcome}

-- the text has a reading
abbrev pub IsRange : List ℕ → Type 0
IsRange = relations.IsRange (Some bar) is_sign HasSigns Spells

-- the version is in the text: some relation of each term holds of it
abbrev pub In : List ℕ → Fields → Type 0
In = relations.In (Some bar) is_sign HasSigns Spells holds

-- What the text makes, the same in each domain: its terms are terms of the relations' spans, with marks from 0.
abbrev pub Makes : Domain → List ℕ → List (List (List (Span Fields))) → Type 0
Makes = relations.Makes (Some bar) is_sign HasSigns Spells first_past outcome (λ domain. spans_of)

-- The first refusal of the text, the same in each domain.
abbrev pub Refuses : Domain → List ℕ → RangeFault → Type 0
Refuses = relations.Refuses (Some bar) is_sign HasSigns Spells first_past outcome
