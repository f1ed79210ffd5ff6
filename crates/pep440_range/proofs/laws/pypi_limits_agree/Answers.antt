use Rattle.pep440_range.proofs.LimitLaws.{limits_agree}
use Rattle.pep440_range.proofs.laws.pypi_limits_agree.Goals as goal

pub returns : goal.returns
returns c = limits_agree
