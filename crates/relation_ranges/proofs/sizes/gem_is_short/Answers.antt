use Rattle.relation_ranges.specs.Laws.Sizes.{gem_short, gem_one}
use Rattle.relation_ranges.proofs.sizes.gem_is_short.Goals as goal

pub returns : goal.returns
returns c = record { short = gem_short; one = gem_one }
