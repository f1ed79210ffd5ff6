use Rattle.cargo_range.specs.Laws.Sizes.{cargo_short, cargo_one}
use Rattle.cargo_range.proofs.sizes.cargo_is_short.Goals as goal

pub returns : goal.returns
returns c = record { short = cargo_short; one = cargo_one }
