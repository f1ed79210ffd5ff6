use Rattle.std.proofs.Common.{◌≡◌, drop}
use Rattle.vx_vers.specs.Steps.Numbering.{least_behind, least_twice}
use Rattle.vx_vers.proofs.sorting.first_twice.Given as goal

-- what is left, with the least so far, gives the least of all
abbrev pub invariant-loop-item : goal.invariant-loop-item
invariant-loop-item g l = least_behind g.S.Scheme.order l.before l.least (drop l.item-index l.rest) ≡ least_twice g.S.Scheme.order l.fn.items
