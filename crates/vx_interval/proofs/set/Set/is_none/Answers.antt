use Rattle.vx_interval.proofs.SpanLaws.{seen_in_order}
use Rattle.vx_interval.proofs.set.Set.is_none.Goals as goal

pub returns-then-not-self-clause-in_order : goal.returns-then-not-self-clause-in_order
returns-then-not-self-clause-in_order g c = seen_in_order g.S.Scheme.order c.self.inside.starts c.self.inside.cuts c.args.self.now c.self.view_is c.self.invariant

pub returns-else-not-self-clause-in_order : goal.returns-else-not-self-clause-in_order
returns-else-not-self-clause-in_order g c = seen_in_order g.S.Scheme.order c.self.inside.starts c.self.inside.cuts c.args.self.now c.self.view_is c.self.invariant
