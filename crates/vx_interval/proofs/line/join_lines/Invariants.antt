use Rattle.std.proofs.Common.{◌≡◌, ◌≤◌, ◌+◌, ◌++◌, length}
use Rattle.vx_scheme.specs.Cuts.{cut_cmp}
use Rattle.vx_line.specs.Steps.Joins.{join_pieces}
use Rattle.vx_interval.specs.Joined.{mark_of}
use Rattle.vx_interval.proofs.line.join_lines.Given as goal

-- the pieces so far, and those of what is left, are those of the joined line; and each step so far passed a cut
abbrev pub invariant-loop-piece : goal.invariant-loop-piece
invariant-loop-piece g l = record {
  whole : l.pieces ++ join_pieces mark_of (cut_cmp g.C.Compares.order) l.both l.first.inside l.first.pieces.items l.second.inside l.second.pieces.items ≡ join_pieces mark_of (cut_cmp g.C.Compares.order) l.both l.fn.a.starts l.fn.a.pieces l.fn.b.starts l.fn.b.pieces;
  cost : l.steps + (length l.first.pieces.items + length l.second.pieces.items) ≤ l.fn.steps + (length l.fn.a.pieces + length l.fn.b.pieces);
}

abbrev pub decreases-loop-piece : goal.decreases-loop-piece
decreases-loop-piece g l = length l.first.pieces.items + length l.second.pieces.items
