use Rattle.vx_scheme.specs.Cuts.{cut_below}
use Rattle.vx_interval.proofs.SpanLaws.{join_at, join_kept, version_place}
use Rattle.vx_interval.proofs.set.Set.join.Goals as goal

pub returns-clause-at : goal.returns-clause-at
returns-clause-at g c =
    join_at g.S.Scheme.order c.args.both c.self.inside.starts c.other.inside.starts _ _ _ _ _ _ c.self.invariant c.other.invariant c.join_values-starts.ensures c.in_ok-cuts.ensures c.self.view_is c.other.view_is

pub returns-clause-members : goal.returns-clause-members
returns-clause-members g c v = returns-clause-at g c (λ cut. cut_below g.S.Scheme.order cut v) (version_place g.met.S.Scheme.total v)

pub returns-clause-kept : goal.returns-clause-kept
returns-clause-kept g c =
    join_kept g.S.Scheme.order c.args.both c.self.inside.starts c.other.inside.starts _ _ _ _ _ _ c.self.invariant c.other.invariant c.join_values-starts.ensures c.in_ok-cuts.ensures c.self.view_is c.other.view_is
