use Rattle.std.proofs.Common.{◌≤◌, ◌-◌, length}
use Rattle.vx_text.specs.Steps.Places.{LacksBefore}
use Rattle.vx_text.proofs.marks.past_eights.Given as goal

abbrev pub invariant-eights : goal.invariant-eights
invariant-eights l = record { within : l.at ≤ length l.text; before : LacksBefore l.mark l.text l.at }

abbrev pub decreases-eights : goal.decreases-eights
decreases-eights l = length l.text - l.at
