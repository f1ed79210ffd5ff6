use Rattle.cargo_range.specs.Laws.Moved.{among_say}
use Rattle.cargo_range.proofs.laws.spans_among_releases_hold_the_same.Goals as goal

pub returns : goal.returns
returns c = among_say
