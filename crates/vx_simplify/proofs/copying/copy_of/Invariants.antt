use Rattle.std.proofs.Common.{◌≡◌, take}
use Rattle.vx_simplify.proofs.copying.copy_of.Given as goal

abbrev pub invariant-loop-constraint : goal.invariant-loop-constraint
invariant-loop-constraint g l = l.copied ≡ take l.constraint-index l.constraint-items
