use Rattle.vx_simplify.proofs.EdgeOrder.{spans_in_order, spans_mean}
use Rattle.vx_simplify.proofs.laws.edges_mean.Goals as goal

pub returns-clause-in_order : goal.returns-clause-in_order
returns-clause-in_order g c list s = spans_in_order g.met.S.Scheme.total list s

pub returns-clause-members : goal.returns-clause-members
returns-clause-members g c list v s = spans_mean g.met.S.Scheme.total list s v
