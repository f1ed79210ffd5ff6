use Rattle.std.proofs.Common.{◌≡◌, ◌++◌}
use Rattle.vx_scheme.specs.Cuts.{cut_list}
use Rattle.vx_simplify.specs.Listed.{listed}
use Rattle.vx_simplify.proofs.listing.list_cuts.Given as goal

abbrev pub invariant-loop-cut : goal.invariant-loop-cut
invariant-loop-cut g l = l.list ++ listed g.S.Scheme.order l.walk.inside (cut_list l.walk.waiting ++ l.cut-iterator.rest.items) ≡ listed g.S.Scheme.order l.fn.starts l.fn.cuts
