-- PyPI's range language, PEP 440, "Version specifiers": which versions are in a text, which spans the text makes, and what it is
-- refused for.
use Rattle.std.specs.Prelude.{ℕ, List}
use Rattle.vx_scheme.specs.declared.domain.Domain.{Domain}
use Rattle.vx_scheme.specs.declared.range_fault.RangeFault.{RangeFault}
use Rattle.vx_scheme.specs.declared.span.Span.{Span}
use Rattle.vx_range.specs.Making.{terms_of, terms_hold}
use Rattle.vx_range.specs.Ranges.{MakesBounds, RefusesText}
use Rattle.vx_range.specs.Ranges as ranges
use Rattle.pep440_scheme.specs.Version.{Fields}
use Rattle.pep440_range.specs.Reading.{IsCut, ReadsAs}
use Rattle.pep440_range.specs.Refusals.{IsPast, outcome}
use Rattle.pep440_range.specs.Holds.{holds}
use Rattle.pep440_range.specs.Spans.{made_spans}

-- the text has a reading
abbrev pub IsRange : List ℕ → Type 0
IsRange text = ranges.IsRange IsCut ReadsAs text

-- the version is in the text: each construct holds of it
abbrev pub In : List ℕ → Fields → Type 0
In text v = ranges.In IsCut ReadsAs (terms_hold holds) text v

-- The text makes these spans: it has a reading, its numerals are within the limit and so are those that are raised by one, each
-- construct has an end in the domain, and the spans are those of the table.
abbrev pub Makes : Domain → List ℕ → List (List (List (Span Fields))) → Type 0
Makes domain text bounds = MakesBounds IsCut ReadsAs IsPast (outcome domain) (terms_of (made_spans domain)) text bounds

-- The first refusal of the text in the domain: a piece that is no construct, a numeral past the limit, a construct without an
-- end, or one with a numeral that cannot be raised.
abbrev pub Refuses : Domain → List ℕ → RangeFault → Type 0
Refuses domain text fault = RefusesText IsCut ReadsAs IsPast (outcome domain) text fault
