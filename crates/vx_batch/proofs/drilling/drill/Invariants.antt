-- The sums are those of the lines so far.
use Rattle.vx_batch.specs.Drill.{IsDrill}
use Rattle.vx_batch.specs.Steps.Drill.{AreSmall}
use Rattle.vx_batch.proofs.drilling.drill.Given as goal

abbrev pub invariant-loop-i : goal.invariant-loop-i
invariant-loop-i l = IsDrill l.i l.sums × AreSmall l.sums
