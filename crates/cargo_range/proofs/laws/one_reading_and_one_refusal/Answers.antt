use Rattle.cargo_range.specs.Laws.Forms.{one_reading}
use Rattle.cargo_range.specs.Laws.Ranges.{refuses_one}
use Rattle.cargo_range.proofs.laws.one_reading_and_one_refusal.Goals as goal

pub returns : goal.returns
returns c = record { reads = one_reading; refused = refuses_one }
