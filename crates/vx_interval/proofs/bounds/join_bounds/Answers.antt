use Rattle.std.proofs.Common.{subst}
use Rattle.vx_scheme.specs.Cuts.{bounds_at}
use Rattle.vx_interval.specs.Steps.Lines.{AreChangesOf}
use Rattle.vx_interval.proofs.LineLaws.{made_cuts_parts}
use Rattle.vx_interval.proofs.JoinedLaws.{joined_by}
use Rattle.vx_interval.proofs.bounds.join_bounds.Goals as goal

pub returns-clause-joined : goal.returns-clause-joined
returns-clause-joined g c =
    (joined_by g.met.C.Compares.total c.args.bounds c.in_ok-joined.joined
    (subst (λ made. AreChangesOf g.C.Compares.order made (λ below. bounds_at below c.args.bounds) c.in_ok-joined.joined) (made_cuts_parts c.args.bounds) c.in_ok-joined.ensures.changes)).0

pub returns-clause-rising : goal.returns-clause-rising
returns-clause-rising g c =
    (joined_by g.met.C.Compares.total c.args.bounds c.in_ok-joined.joined
    (subst (λ made. AreChangesOf g.C.Compares.order made (λ below. bounds_at below c.args.bounds) c.in_ok-joined.joined) (made_cuts_parts c.args.bounds) c.in_ok-joined.ensures.changes)).1
