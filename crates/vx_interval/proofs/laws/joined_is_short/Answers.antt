use Rattle.vx_interval.proofs.ShortLaws.{joined_is_short}
use Rattle.vx_interval.proofs.laws.joined_is_short.Goals as goal

pub returns : goal.returns
returns g c bounds spans j = joined_is_short g.met.S.Scheme.total bounds spans j
