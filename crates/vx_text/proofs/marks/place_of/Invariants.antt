use Rattle.vx_text.specs.Steps.Places.{LacksBefore}
use Rattle.vx_text.proofs.marks.place_of.Given as goal

abbrev pub invariant-bytes : goal.invariant-bytes
invariant-bytes l = LacksBefore l.mark l.text l.at
