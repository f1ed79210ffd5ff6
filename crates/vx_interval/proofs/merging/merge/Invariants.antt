use Rattle.std.proofs.Common.{◌≡◌, ◌≤◌, ◌+◌, ◌++◌, length}
use Rattle.vx_scheme.specs.Cuts.{cut_cmp}
use Rattle.vx_line.specs.Line.{join_by}
use Rattle.vx_line.specs.Steps.Merges.{merge_by}
use Rattle.vx_interval.proofs.merging.merge.Given as goal

-- the cuts so far, and those of the merge of what is left, are those of the merge; and each step so far took a cut
abbrev pub invariant-loop-taken : goal.invariant-loop-taken
invariant-loop-taken g l = record {
  whole : l.cuts ++ merge_by (cut_cmp g.C.Compares.order) (join_by l.both) l.p l.xs.items l.q l.ys.items ≡ merge_by (cut_cmp g.C.Compares.order) (join_by l.both) l.a_starts l.fn.a l.b_starts l.fn.b;
  cost : l.steps + (length l.xs.items + length l.ys.items) ≤ l.fn.steps + (length l.fn.a + length l.fn.b);
}

abbrev pub decreases-loop-taken : goal.decreases-loop-taken
decreases-loop-taken g l = length l.xs.items + length l.ys.items
