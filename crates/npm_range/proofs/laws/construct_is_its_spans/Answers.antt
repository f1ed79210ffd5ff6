use Rattle.npm_range.specs.Laws.Tables.{all_says, releases_say}
use Rattle.npm_range.proofs.laws.construct_is_its_spans.Goals as goal

pub returns-clause-all : goal.returns-clause-all
returns-clause-all c = all_says

pub returns-clause-releases : goal.returns-clause-releases
returns-clause-releases c = releases_say
