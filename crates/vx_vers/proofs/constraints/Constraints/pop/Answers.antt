use Rattle.vx_vers.proofs.SortedLaws.{sorted-popped}
use Rattle.vx_vers.proofs.constraints.Constraints.pop.Goals as goal

pub invariant_of-self : goal.invariant_of-self
invariant_of-self g c = sorted-popped g.S.Scheme.order g.met.S.Scheme.total c.pop.result c.self.inside.list _ c.pop.ensures c.self.invariant
