use Rattle.std.proofs.Common.{◌≢◌, ◌||◌, [], false, subst, sym, ap, ◌∙◌}
use Rattle.vx_scheme.specs.Cuts.{spans_of, in_spans}
use Rattle.vx_simplify.specs.Edges.{all_holes, starts_in}
use Rattle.vx_simplify.proofs.EdgeSteps.{some_span}
use Rattle.vx_simplify.proofs.EdgeOrder.{edges_in_order, spans_mean}
use Rattle.vx_simplify.proofs.spanning.into_set.Goals as goal

pub from_cuts-requires : goal.from_cuts-requires
from_cuts-requires g c = rw c.in_ok-cuts.ensures (edges_in_order g.met.S.Scheme.total (all_holes c.args.list) false 1 c.args.list c.as_slice-constraints.ensures.sorted)

pub returns-clause-spans : goal.returns-clause-spans
returns-clause-spans g c =
    c.from_cuts.ensures.spans
    ∙ (λ i. spans_of ((c.is_in-starts.ensures ∙ (λ j. (false || c.closes_at_first.ensures j) || c.has_only_holes-holes.ensures j) ∙ ap starts_in c.as_slice-constraints.ensures.items) i) (c.in_ok-cuts.ensures i))

pub returns-clause-some : goal.returns-clause-some
returns-clause-some g c = subst (λ spans. spans ≢ []) (sym (returns-clause-spans g c)) (some_span c.args.list)

pub returns-clause-members : goal.returns-clause-members
returns-clause-members g c v = ap (λ spans. in_spans g.S.Scheme.order spans v) (returns-clause-spans g c) ∙ spans_mean g.met.S.Scheme.total c.args.list c.as_slice-constraints.ensures.sorted v
