use Rattle.npm_range.specs.Laws.Sizes.{npm_short, npm_one}
use Rattle.npm_range.proofs.sizes.npm_is_short.Goals as goal

pub returns : goal.returns
returns c = record { short = npm_short; one = npm_one }
