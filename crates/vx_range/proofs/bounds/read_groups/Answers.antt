-- One group more.
use Rattle.std.proofs.Common.{refl}
use Rattle.std.specs.List.{AllByRecursion}
use Rattle.std.proofs.lemmas.Result.{err_from_is_err_and}
use Rattle.vx_range.specs.Pieces.{all_as_written, IsInPlace}
use Rattle.vx_range.specs.Reading.{IsNoConstruct}
use Rattle.vx_range.proofs.FoundLaws.{none_found, each_got, next_found, all_found, as_item, group_stops_at}
use Rattle.vx_range.proofs.MadeLaws.{groups_step}
use Rattle.vx_range.proofs.bounds.read_groups.Goals as goal

pub loop-i-init : goal.loop-i-init
loop-i-init g c = none_found _ _ _ _ _ _ _ (c.in_ok-shapes.ensures, refl)

pub read_group-requires : goal.read_group-requires
read_group-requires g c = each_got (AllByRecursion IsInPlace) all_as_written c.args.groups.now c.loop-i.i c.get.result.now c.get.ensures c.requires

pub returns-in_err-shape-clause-err : goal.returns-in_err-shape-clause-err
returns-in_err-shape-clause-err g c =
    let p = err_from_is_err_and c.from_residual-in_err-shape.result c.from_residual-in_err-shape.ensures.1 in
    rw (p.1, p.2) (λ some. group_stops_at (IsNoConstruct g.L.Language.ReadsAs) _ _ _ _ all_as_written c.args.groups.now c.loop-i.i c.get.result.now c.get.ensures _ _ _ c.loop-i.invariant _ (c.in_err-shape.ensures.err some))

pub loop-i-preserved : goal.loop-i-preserved
loop-i-preserved g c =
    next_found _ _ _ _ _ all_as_written c.args.groups.now c.loop-i.i c.get.result.now c.get.ensures _ _ _ _ _ _ c.loop-i.invariant (as_item _ _ _ _ _ _ _ _ _ c.in_ok-shape.ensures.ok) (groups_step (g.L.Making.spans c.args.domain) g.S.Shape.together _ _ _ _ _ _ c.in_ok-push.ensures.ok)

pub returns-clause-ok : goal.returns-clause-ok
returns-clause-ok g c = all_found _ _ _ _ _ all_as_written c.args.groups.now c.loop-i.i (rw c.len-i-end.ensures at c.loop-i-test.false) _ _ _ c.loop-i.invariant
