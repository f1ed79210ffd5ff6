use Rattle.std.proofs.Common.{◌≡◌, drop}
use Rattle.vx_simplify.specs.Edges.{all_holes}
use Rattle.vx_simplify.proofs.spanning.has_only_holes.Given as goal

abbrev pub invariant-loop-constraint : goal.invariant-loop-constraint
invariant-loop-constraint g l = all_holes (drop l.constraint-index l.list) ≡ all_holes l.list
