use Rattle.std.proofs.Common.{not, sym, ap, ◌∙◌}
use Rattle.vx_scheme.specs.Cuts.{cut_below}
use Rattle.vx_scheme.specs.Cuts.{cuts_of, spans_at}
use Rattle.vx_interval.proofs.SpanLaws.{cuts_of_spans_of, complement_spans, version_place}
use Rattle.vx_interval.proofs.set.Set.complement.Goals as goal

pub returns-clause-cuts : goal.returns-clause-cuts
returns-clause-cuts g c =
    let set = c.self.inside in
    cuts_of_spans_of (not set.starts) set.cuts ∙ sym (cuts_of_spans_of set.starts set.cuts) ∙ ap cuts_of c.self.view_is

pub returns-clause-at : goal.returns-clause-at
returns-clause-at g c below place =
    let set = c.self.inside in
    complement_spans g.met.S.Scheme.total below place set.starts set.cuts c.self.invariant ∙ ap (λ spans. not (spans_at below spans)) c.self.view_is

pub returns-clause-members : goal.returns-clause-members
returns-clause-members g c v = returns-clause-at g c (λ cut. cut_below g.S.Scheme.order cut v) (version_place g.met.S.Scheme.total v)
