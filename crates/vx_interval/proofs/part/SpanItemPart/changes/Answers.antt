use Rattle.vx_interval.proofs.LineLaws.{span_changes}
use Rattle.vx_interval.proofs.part.SpanItemPart.changes.Goals as goal

pub returns-clause-changes : goal.returns-clause-changes
returns-clause-changes g c =
    span_changes g.met.C.Compares.total c.args.self c.in_ok-joined.joined c.in_ok-joined.ensures.starts c.in_ok-joined.ensures.cuts
