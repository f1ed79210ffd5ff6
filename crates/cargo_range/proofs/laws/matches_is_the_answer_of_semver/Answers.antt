use Rattle.semver.proofs.EvalViews.{matches_all-views}
use Rattle.cargo_range.proofs.laws.matches_is_the_answer_of_semver.Goals as goal

pub returns : goal.returns
returns c = matches_all-views
