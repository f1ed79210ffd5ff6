use Rattle.std.proofs.Common.{◌≡◌, ◌++◌, drop, take}
use Rattle.vx_line.specs.Steps.Joins.{join_right}
use Rattle.vx_interval.proofs.line.Line.join_even.Given as goal

-- the pieces so far have the one answer, and what is left is as it was
abbrev pub invariant-loop-piece : goal.invariant-loop-piece
invariant-loop-piece g l = l.piece-items ≡ join_right l.both l.inside (take l.piece-index l.initial.piece-items) ++ drop l.piece-index l.initial.piece-items
