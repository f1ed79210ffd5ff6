use Rattle.pep440_scheme.proofs.NextLaws as laws
use Rattle.pep440_scheme.proofs.next.locals_alone_lie_between.Goals as goal

pub returns : goal.returns
returns c = λ v w is. laws.locals_between v w is
