use Rattle.cargo_range.specs.Laws.Orders.{release_each}
use Rattle.cargo_range.proofs.laws.release_matches_each_comparator.Goals as goal

pub returns : goal.returns
returns c = release_each
