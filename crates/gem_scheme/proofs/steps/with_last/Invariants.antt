-- The segments so far are copied.
use Rattle.std.proofs.Common.{◌≡◌, take}
use Rattle.gem_scheme.proofs.steps.with_last.Given as goal

abbrev pub invariant-loop-segment : goal.invariant-loop-segment
invariant-loop-segment l = l.list ≡ take l.segment-index l.segments
