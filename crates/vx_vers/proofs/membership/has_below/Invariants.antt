use Rattle.std.proofs.Common.{◌≡◌, drop}
use Rattle.vx_vers.specs.Steps.Passing.{holds_below}
use Rattle.vx_vers.proofs.membership.has_below.Given as goal

abbrev pub invariant-loop-constraint : goal.invariant-loop-constraint
invariant-loop-constraint g l = holds_below l.opens l.only_holes (drop l.constraint-index l.list) ≡ holds_below l.fn.opens l.fn.only_holes l.fn.list
