use Rattle.vx_vers.proofs.AlikeLaws.{mean_alike}
use Rattle.vx_vers.proofs.laws.alike_mean_alike.Goals as goal

pub returns : goal.returns
returns g c list v w s = mean_alike g.S.Scheme.order v w list s
