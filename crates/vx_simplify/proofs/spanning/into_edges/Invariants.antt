use Rattle.std.proofs.Common.{◌≡◌, ◌+◌, length}
use Rattle.vx_simplify.specs.Edges.{edges_of}
use Rattle.vx_simplify.proofs.Passing.{ArePassed}
use Rattle.vx_simplify.proofs.spanning.into_edges.Given as goal

-- the cuts so far, with those of the constraints that are left
abbrev pub invariant-loop-constraint : goal.invariant-loop-constraint
invariant-loop-constraint g l = record {
  passed : ArePassed (edges_of l.fn.list) l.fn.holes l.inside (l.number + 1) l.constraint-iterator.rest.items l.cuts;
  counted : l.number + length l.constraint-iterator.rest.items ≡ length l.fn.list;
}
