-- One piece more.
use Rattle.std.proofs.Common.{refl}
use Rattle.std.proofs.lemmas.Result.{err_from_is_err_and}
use Rattle.vx_range.specs.Pieces.{as_written, IsInPlace}
use Rattle.vx_range.proofs.FoundLaws.{none_found, each_got, next_found, all_found, item_stops_at}
use Rattle.vx_range.proofs.MadeLaws.{group_step}
use Rattle.vx_range.proofs.shape.read_group.Goals as goal

pub loop-i-init : goal.loop-i-init
loop-i-init g c = none_found _ _ _ _ _ _ _ (c.in_ok-shape.ensures, refl)

pub add-requires : goal.add-requires
add-requires g c = each_got IsInPlace as_written c.args.pieces.now c.loop-i.i c.get.result.now c.get.ensures c.requires

pub returns-in_err-add-clause-err : goal.returns-in_err-add-clause-err
returns-in_err-add-clause-err g c =
    let p = err_from_is_err_and c.from_residual-in_err-add.result c.from_residual-in_err-add.ensures.1 in
    rw (p.1, p.2) (λ some. item_stops_at _ _ _ _ _ as_written c.args.pieces.now c.loop-i.i c.get.result.now c.get.ensures _ _ _ c.loop-i.invariant _ (c.in_err-add.ensures.err some))

pub loop-i-preserved : goal.loop-i-preserved
loop-i-preserved g c = next_found _ _ _ _ _ as_written c.args.pieces.now c.loop-i.i c.get.result.now c.get.ensures _ _ _ _ _ _ c.loop-i.invariant c.in_ok-add.ensures.ok (group_step (g.L.Making.spans c.args.domain) g.S.Shape.together _ _ _ _ _)

pub returns-clause-ok : goal.returns-clause-ok
returns-clause-ok g c = all_found _ _ _ _ _ as_written c.args.pieces.now c.loop-i.i (rw c.len-i-end.ensures at c.loop-i-test.false) _ _ _ c.loop-i.invariant
