use Rattle.vx_simplify.proofs.SameLaws.{again_valid, again_once}
use Rattle.vx_simplify.proofs.laws.same_stays_simple.Goals as goal

pub returns-clause-valid : goal.returns-clause-valid
returns-clause-valid g c a list s = again_valid g.S.Scheme.order a list s

pub returns-clause-once : goal.returns-clause-once
returns-clause-once g c a list s = again_once g.S.Scheme.order a list s
