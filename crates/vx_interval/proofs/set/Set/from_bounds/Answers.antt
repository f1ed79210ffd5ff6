use Rattle.std.proofs.Common.{sym, subst}
use Rattle.vx_scheme.specs.Cuts.{cut_below}
use Rattle.vx_interval.specs.Joined.{IsJoined}
use Rattle.vx_interval.proofs.SpanLaws.{version_place}
use Rattle.vx_interval.proofs.set.Set.from_bounds.Goals as goal

pub returns-clause-joined : goal.returns-clause-joined
returns-clause-joined g c = subst (IsJoined g.S.Scheme.order c.args.bounds) (sym c.from_cuts.ensures.spans) c.in_ok-joined.ensures.joined

pub returns-clause-members : goal.returns-clause-members
returns-clause-members g c v = (returns-clause-joined g c).pieces (λ cut. cut_below g.S.Scheme.order cut v) (version_place g.met.S.Scheme.total v)
