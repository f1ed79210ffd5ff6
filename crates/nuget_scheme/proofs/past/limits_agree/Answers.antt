use Rattle.nuget_scheme.proofs.PastLaws as laws
use Rattle.nuget_scheme.proofs.past.limits_agree.Goals as goal

pub returns : goal.returns
returns c = λ text v at s. laws.limits_agree text v at s
