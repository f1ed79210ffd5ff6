-- npm's range language, after the README of node-semver, "Ranges": which versions are in a text, which spans the text makes, and
-- what it is refused for.
use Rattle.std.specs.Prelude.{ℕ, List}
use Rattle.vx_scheme.specs.declared.domain.Domain.{Domain}
use Rattle.vx_scheme.specs.declared.range_fault.RangeFault.{RangeFault}
use Rattle.vx_scheme.specs.declared.span.Span.{Span}
use Rattle.vx_range.specs.Making.{alternatives_of, alternatives_hold}
use Rattle.vx_range.specs.Ranges.{MakesBounds, RefusesText}
use Rattle.vx_range.specs.Ranges as ranges
use Rattle.npm_scheme.specs.Version.{Fields}
use Rattle.npm_range.specs.Cutting.{IsCut}
use Rattle.npm_range.specs.Reading.{ReadsAs}
use Rattle.npm_range.specs.Refusals.{IsPast, outcome}
use Rattle.npm_range.specs.Holds.{holds}
use Rattle.npm_range.specs.Spans.{made_spans}

-- the text has a reading
abbrev pub IsRange : List ℕ → Type 0
IsRange text = ranges.IsRange IsCut ReadsAs text

-- the version is in the text: in some alternative all constructs hold of it
abbrev pub In : List ℕ → Fields → Type 0
In text v = ranges.In IsCut ReadsAs (alternatives_hold holds) text v

-- The text makes these spans: it has a reading, its numerals are within the limit and so are those that are raised by one,
-- and the spans are those of the table.
abbrev pub Makes : Domain → List ℕ → List (List (List (Span Fields))) → Type 0
Makes domain text bounds = MakesBounds IsCut ReadsAs IsPast outcome (alternatives_of (made_spans domain)) text bounds

-- The first refusal of the text: a piece that is no construct, a numeral past the limit, or one that cannot be raised.
-- It is the same in each domain.
abbrev pub Refuses : Domain → List ℕ → RangeFault → Type 0
Refuses domain text fault = RefusesText IsCut ReadsAs IsPast outcome text fault
