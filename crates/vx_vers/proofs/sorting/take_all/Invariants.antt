use Rattle.std.proofs.Common.{length}
use Rattle.vx_vers.specs.Steps.Numbering.{AreTaken}
use Rattle.vx_vers.proofs.sorting.take_all.Given as goal

abbrev pub invariant-items : goal.invariant-items
invariant-items g l = AreTaken l.fn.list l.list l.items

abbrev pub decreases-items : goal.decreases-items
decreases-items g l = length l.list
