-- What PyPI's range language promises.
use Rattle.std.specs.Prelude.{⊤}
use Rattle.vx_scheme.specs.Native.{RangeLaws, by_domain}
use Rattle.vx_range.specs.Laws.Ranges.{term_ranges}
use Rattle.pep440_scheme.specs.Version.{IsVersion, IsRelease}
use Rattle.pep440_scheme.specs.Order.{order_of}
use Rattle.pep440_range.specs.Reading.{IsCut, ReadsAs}
use Rattle.pep440_range.specs.Refusals.{IsPast, outcome}
use Rattle.pep440_range.specs.Holds.{holds}
use Rattle.pep440_range.specs.Spans.{made_spans}
use Rattle.pep440_range.specs.Range.{IsRange, In, Makes, Refuses}
use Rattle.pep440_range.specs.Laws.Readings.{pypi_cuts, pypi_pieces}
use Rattle.pep440_range.specs.Laws.Agrees.{pypi_agrees}

pub pypi_ranges : RangeLaws order_of IsVersion (by_domain (λ _. ⊤) IsRelease) (λ _. ⊤) IsRange In Makes Refuses
pypi_ranges =
    term_ranges order_of IsVersion (by_domain (λ _. ⊤) IsRelease) (λ _. ⊤) IsCut ReadsAs IsPast
    pypi_cuts pypi_pieces outcome made_spans holds pypi_agrees
