use Rattle.vx_simplify.proofs.Walking.{above_waiting}
use Rattle.vx_simplify.proofs.listing.list_cuts.Goals as goal

pub pass_cut-requires : goal.pass_cut-requires
pass_cut-requires g c = above_waiting g.S.Scheme.order g.met.S.Scheme.total _ _ _ _ _ _ c.requires c.loop-cut.invariant

pub end_walk-requires : goal.end_walk-requires
end_walk-requires g c = above_waiting g.S.Scheme.order g.met.S.Scheme.total _ _ _ _ _ _ c.requires c.loop-cut.invariant
