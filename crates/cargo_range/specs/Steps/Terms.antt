-- What the comparators of a text come to: their terms, or the first that cannot be raised.
use Rattle.std.specs.Prelude.{◌≡◌, ℕ, false, true, List}
use Rattle.std.specs.List.{list_all, prefix_len}
use Rattle.semver.specs.Parse.{Parts}
use Rattle.vx_scheme.specs.declared.range_fault.RangeFault.{RangeFault}
use Rattle.vx_scheme.specs.declared.range_fault.RangeFault.TheVariants.{Syntax, Numeral, NoEndpoint, NoMemory}
use Rattle.vx_scheme.specs.declared.span.Span.{Span}
use Rattle.vx_range.specs.Making.{made_each}
use Rattle.cargo_range.specs.declared.construct.Construct.{Construct}
use Rattle.cargo_range.specs.Spans.{made_spans}
use Rattle.cargo_range.specs.Refusals.{can_raise, place_of}

-- each comparator can be raised, and these are its spans, with marks that run on from 0
abbrev pub AreTerms : List Construct → List (List (Span Parts)) → Type 0
AreTerms all terms = (list_all can_raise all ≡ true) × (terms ≡ made_each made_spans 0 all)

-- the first comparator that cannot be raised begins at the place of the fault, or memory ended
abbrev pub IsFirstTooHigh : List ℕ → List Construct → RangeFault → Type 0
IsFirstTooHigh text all (Syntax at) = ⊥
IsFirstTooHigh text all (Numeral at) = (list_all can_raise all ≡ false) × (at ≡ place_of text (prefix_len can_raise all))
IsFirstTooHigh text all (NoEndpoint kind at) = ⊥
IsFirstTooHigh text all NoMemory = Unit {0}
