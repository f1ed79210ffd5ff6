use Rattle.vx_interval.proofs.JoinedLaws.{joined_unique}
use Rattle.vx_interval.proofs.laws.joined_unique.Goals as goal

pub returns : goal.returns
returns g c bounds spans others j k = joined_unique g.met.S.Scheme.total bounds spans others j k
