use Rattle.pep440_range.proofs.RaiseLaws.{made_within, too_high_not}
use Rattle.pep440_range.proofs.laws.pypi_raises_agree.Goals as goal

pub returns-clause-made : goal.returns-clause-made
returns-clause-made c = λ piece construct domain mark reads is makes. made_within construct domain mark is makes

pub returns-clause-too_high : goal.returns-clause-too_high
returns-clause-too_high c = λ piece construct domain mark reads is high. too_high_not piece construct domain mark reads high
