-- What is found at the pieces so far.
use Rattle.std.proofs.Common.{map, take}
use Rattle.vx_range.specs.Pieces.{as_written}
use Rattle.vx_range.specs.Steps.Found.{IsGroupFound, IsGroupMade}
use Rattle.vx_range.proofs.shape.read_group.Given as goal

abbrev pub invariant-loop-i : goal.invariant-loop-i
invariant-loop-i g l =
    IsGroupFound g.L.Language.ReadsAs g.L.Language.IsPast (g.L.Making.outcome l.domain) (map as_written (take l.i l.pieces)) l.initial.findings l.findings
    (IsGroupMade g.S.Shape.together (g.L.Making.spans l.domain) l.initial.findings.marks l.findings.marks l.shape)
