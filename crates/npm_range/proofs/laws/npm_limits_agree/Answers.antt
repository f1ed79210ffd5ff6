use Rattle.npm_range.proofs.LimitLaws.{limits_agree}
use Rattle.npm_range.proofs.laws.npm_limits_agree.Goals as goal

pub returns : goal.returns
returns c = limits_agree
