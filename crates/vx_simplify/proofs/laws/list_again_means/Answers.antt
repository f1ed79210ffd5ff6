use Rattle.std.proofs.Common.{◌∙◌}
use Rattle.vx_simplify.specs.Edges.{spans_of_list}
use Rattle.vx_simplify.proofs.EdgeOrder.{spans_in_order, spans_mean}
use Rattle.vx_simplify.proofs.EdgeSteps.{some_span}
use Rattle.vx_simplify.proofs.ListedLaws.{list_means}
use Rattle.vx_simplify.proofs.laws.list_again_means.Goals as goal

pub returns : goal.returns
returns g c list v s =
    list_means g.met.S.Scheme.total (spans_of_list list) v (spans_in_order g.met.S.Scheme.total list s) (some_span list)
    ∙ spans_mean g.met.S.Scheme.total list s v
