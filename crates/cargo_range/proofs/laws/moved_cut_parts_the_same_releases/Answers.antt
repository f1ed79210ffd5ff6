use Rattle.cargo_range.specs.Laws.Moved.{moved_says}
use Rattle.cargo_range.proofs.laws.moved_cut_parts_the_same_releases.Goals as goal

pub returns : goal.returns
returns c = moved_says
