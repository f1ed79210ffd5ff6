use Rattle.std.proofs.Common.{◌≤◌, length}
use Rattle.vx_interval.proofs.LineLaws.{Skipped}
use Rattle.vx_interval.proofs.part.last_line.Given as goal

-- the parts so far have no cut, and cost nothing
abbrev pub invariant-loop-part : goal.invariant-loop-part
invariant-loop-part g l = record {
  skipped : Skipped g.met.C.Compares.total g.X.Part.cuts g.X.Part.at l.both l.fn.parts l.parts l.inside;
  cost : l.steps ≤ l.fn.steps;
}

abbrev pub decreases-loop-part : goal.decreases-loop-part
decreases-loop-part g l = length l.parts
