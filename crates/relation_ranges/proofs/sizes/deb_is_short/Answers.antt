use Rattle.relation_ranges.specs.Laws.Sizes.{deb_short, deb_one}
use Rattle.relation_ranges.proofs.sizes.deb_is_short.Goals as goal

pub returns : goal.returns
returns c = record { short = deb_short; one = deb_one }
