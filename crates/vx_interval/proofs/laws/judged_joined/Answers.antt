use Rattle.vx_interval.proofs.JoinedLaws.{judged_joined}
use Rattle.vx_interval.proofs.laws.judged_joined.Goals as goal

pub returns : goal.returns
returns g c bounds line spans t j = judged_joined g.met.S.Scheme.total bounds line t spans j
