use Rattle.vx_vers.proofs.AgainLaws.{means_same}
use Rattle.vx_vers.proofs.laws.same_lists_mean.Goals as goal

pub returns : goal.returns
returns g c a b v s = means_same g.met.S.Scheme.total v a b s
