use Rattle.std.proofs.Common.{sym}
use Rattle.vx_interval.proofs.SpanLaws.{seen_in_order}
use Rattle.vx_interval.proofs.set.Set.into_spans.Goals as goal

pub returns-clause-in_order : goal.returns-clause-in_order
returns-clause-in_order g c =
    let set = c.self.inside in
    seen_in_order g.S.Scheme.order set.starts set.cuts c.in_ok-spans.spans (sym c.in_ok-spans.ensures) c.self.invariant
