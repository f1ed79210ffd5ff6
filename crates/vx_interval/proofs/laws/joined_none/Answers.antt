use Rattle.vx_interval.proofs.JoinedLaws.{joined_none}
use Rattle.vx_interval.proofs.laws.joined_none.Goals as goal

pub returns : goal.returns
returns g c bounds spans j none = joined_none g.met.S.Scheme.total bounds spans j none
