use Rattle.std.proofs.Common.{◌≡◌, drop}
use Rattle.vx_vers.specs.Steps.Numbering.{rises, rises_behind}
use Rattle.vx_vers.proofs.sorting.is_rising.Given as goal

-- what is left decides
abbrev pub invariant-loop-constraint : goal.invariant-loop-constraint
invariant-loop-constraint g l = rises_behind g.S.Scheme.order l.before (drop l.constraint-index l.rest) ≡ rises g.S.Scheme.order l.fn.list
