use Rattle.std.proofs.Common.{◌≡◌, drop, map, filter}
use Rattle.cargo_range.specs.Back.{move_span, is_proper, among_releases}
use Rattle.cargo_range.specs.Steps.Intervals.{joined_from}
use Rattle.cargo_range.proofs.back.interval.Given as goal

-- the interval so far, with the spans that are left, makes what all spans make
abbrev pub invariant-loop-span : goal.invariant-loop-span
invariant-loop-span l = joined_from l.found (filter is_proper (map move_span (drop l.span-index l.spans))) ≡ among_releases l.fn.spans
