-- What npm's range language promises.
use Rattle.std.specs.Prelude.{⊤}
use Rattle.vx_scheme.specs.Native.{RangeLaws, by_domain}
use Rattle.vx_range.specs.Laws.Ranges.{alternative_ranges}
use Rattle.npm_scheme.specs.Version.{IsVersion, IsRelease}
use Rattle.npm_scheme.specs.Order.{order_of}
use Rattle.npm_range.specs.Cutting.{IsCut}
use Rattle.npm_range.specs.Reading.{ReadsAs}
use Rattle.npm_range.specs.Refusals.{IsPast, outcome}
use Rattle.npm_range.specs.Holds.{holds}
use Rattle.npm_range.specs.Spans.{made_spans}
use Rattle.npm_range.specs.Range.{IsRange, In, Makes, Refuses}
use Rattle.npm_range.specs.Laws.Cuts.{npm_cuts}
use Rattle.npm_range.specs.Laws.Pieces.{npm_pieces}
use Rattle.npm_range.specs.Laws.Tables.{npm_agrees}

pub npm_ranges : RangeLaws order_of IsVersion (by_domain (λ _. ⊤) IsRelease) (λ _. ⊤) IsRange In Makes Refuses
npm_ranges = alternative_ranges order_of IsVersion (by_domain (λ _. ⊤) IsRelease) (λ _. ⊤) IsCut ReadsAs IsPast npm_cuts npm_pieces (λ domain. outcome) made_spans holds npm_agrees
