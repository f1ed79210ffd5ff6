use Rattle.vx_interval.proofs.SpanLaws.{seen_in_order}
use Rattle.vx_interval.proofs.set.Set.starts_in.Goals as goal

pub returns-clause-in_order : goal.returns-clause-in_order
returns-clause-in_order g c = seen_in_order g.S.Scheme.order c.self.inside.starts c.self.inside.cuts c.args.self.now c.self.view_is c.self.invariant
