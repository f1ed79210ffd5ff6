use Rattle.vx_simplify.proofs.ListedLaws.{list_means}
use Rattle.vx_simplify.proofs.laws.list_means.Goals as goal

pub returns : goal.returns
returns g c spans v s some = list_means g.met.S.Scheme.total spans v s some
