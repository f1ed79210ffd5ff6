use Rattle.std.proofs.Common.{sym}
use Rattle.vx_vers.proofs.Walking.{walk_means}
use Rattle.vx_vers.proofs.laws.walk_means.Goals as goal

pub returns : goal.returns
returns g c list v s w = sym (walk_means g.met.S.Scheme.total v list s w)
