use Rattle.vx_vers.proofs.SortedLaws.{sorted-pushed}
use Rattle.vx_vers.proofs.constraints.Constraints.push.Goals as goal

pub invariant_of-self : goal.invariant_of-self
invariant_of-self g c = sorted-pushed g.S.Scheme.order g.met.S.Scheme.total c.push.result c.self.inside.list _ _ c.push.ensures.ok c.push.ensures.err c.self.invariant (rw c.self.view_is c.requires)
