use Rattle.vx_interval.proofs.SpanLaws.{cuts_seen, seen_in_order}
use Rattle.vx_interval.proofs.set.Set.into_cuts.Goals as goal

pub returns-clause-cuts : goal.returns-clause-cuts
returns-clause-cuts g c = cuts_seen c.self.inside.starts c.self.inside.cuts c.args.self c.self.view_is

pub returns-clause-apart : goal.returns-clause-apart
returns-clause-apart g c = seen_in_order g.S.Scheme.order c.self.inside.starts c.self.inside.cuts c.args.self c.self.view_is c.self.invariant
