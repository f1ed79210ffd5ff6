use Rattle.std.proofs.Common.{length}
use Rattle.purl_core.specs.Steps.Placing.{IsWithin, left}
use Rattle.purl_core.proofs.placing.Walk.count.Given as goal

abbrev pub invariant-counted : goal.invariant-counted
invariant-counted l = IsWithin l.walk

abbrev pub decreases-counted : goal.decreases-counted
decreases-counted l = length (left l.walk)
