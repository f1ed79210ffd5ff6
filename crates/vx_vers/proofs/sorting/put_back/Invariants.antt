use Rattle.std.proofs.Common.{◌≡◌, ◌++◌}
use Rattle.vx_vers.specs.Steps.Numbering.{constraints_of}
use Rattle.vx_vers.proofs.sorting.put_back.Given as goal

abbrev pub invariant-loop-item : goal.invariant-loop-item
invariant-loop-item g l = l.list ++ constraints_of l.item-iterator.rest.items ≡ constraints_of l.fn.sorted.items
