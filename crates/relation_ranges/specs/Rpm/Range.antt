-- RPM's range language, by the operators of its reference manual, "Dependencies": which versions are in a text, which spans the
-- text makes, and what it is refused for.
use Rattle.std.specs.Prelude.{ℕ, List, None}
use Rattle.vx_scheme.specs.declared.domain.Domain.{Domain}
use Rattle.vx_scheme.specs.declared.range_fault.RangeFault.{RangeFault}
use Rattle.vx_scheme.specs.declared.span.Span.{Span}
use Rattle.vx_text.specs.Past.{first_past}
use Rattle.rpm_scheme.specs.Version.{Fields}
use Rattle.rpm_scheme.specs.Spelling.{Spells}
use Rattle.relation_ranges.specs.Range as relations
use Rattle.relation_ranges.specs.Comparison.{is_sign}
use Rattle.relation_ranges.specs.Rpm.Reading.{HasSigns}
use Rattle.relation_ranges.specs.Rpm.Holds.{holds}
use Rattle.relation_ranges.specs.Rpm.Spans.{spans_of, outcome}

-- the text has a reading
abbrev pub IsRange : List ℕ → Type 0
IsRange = relations.IsRange None is_sign HasSigns Spells

-- the version is in the text: each relation holds of it
abbrev pub In : List ℕ → Fields → Type 0
In = relations.In None is_sign HasSigns Spells holds

-- what the text makes in the domain: its terms are the relations' spans, with marks from 0
abbrev pub Makes : Domain → List ℕ → List (List (List (Span Fields))) → Type 0
Makes = relations.Makes None is_sign HasSigns Spells first_past outcome spans_of

-- the first refusal of the text in the domain
abbrev pub Refuses : Domain → List ℕ → RangeFault → Type 0
Refuses = relations.Refuses None is_sign HasSigns Spells first_past outcome
