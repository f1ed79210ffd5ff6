-- What is found at the groups so far.
use Rattle.std.proofs.Common.{map, take}
use Rattle.vx_range.specs.Pieces.{all_as_written}
use Rattle.vx_range.specs.Steps.Found.{AreGroupsFound, AreGroupsMade}
use Rattle.vx_range.proofs.bounds.read_groups.Given as goal

abbrev pub invariant-loop-i : goal.invariant-loop-i
invariant-loop-i g l =
    AreGroupsFound g.L.Language.ReadsAs g.L.Language.IsPast (g.L.Making.outcome l.domain) (map all_as_written (take l.i l.groups)) l.initial.findings l.findings
    (AreGroupsMade g.S.Shape.together (g.L.Making.spans l.domain) l.initial.findings.marks l.findings.marks l.shapes)
