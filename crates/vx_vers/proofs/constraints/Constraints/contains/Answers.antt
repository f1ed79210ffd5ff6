use Rattle.std.proofs.Common.{sym, ap, subst, ◌∙◌}
use Rattle.vx_vers.specs.Meaning.{meaning}
use Rattle.vx_vers.specs.Sorted.{IsSorted}
use Rattle.vx_vers.proofs.Passed.{found_own, found_below}
use Rattle.vx_vers.proofs.constraints.Constraints.contains.Goals as goal

pub returns-in-Equal : goal.returns-in-Equal
returns-in-Equal g c =
    let items = c.as_slice-list.ensures.items in
    found_own g.met.S.Scheme.total c.args.version.now c.as_slice-list.result.now c.loop-i.opens c.loop-i.only_holes c.has_own.result c.loop-i.i c.index-list-i.result (subst (IsSorted g.S.Scheme.order) (sym items) c.as_slice-list.ensures.sorted) c.loop-i-test.true c.index-list-i.is
    (sym c.compare.ensures.order ∙ c.in-Equal.is) c.has_own.ensures c.loop-i.invariant
    ∙ ap (meaning g.S.Scheme.order c.args.version.now) items

pub returns-in-Greater : goal.returns-in-Greater
returns-in-Greater g c =
    let items = c.as_slice-list.ensures.items in
    found_below g.met.S.Scheme.total c.args.version.now c.as_slice-list.result.now c.loop-i.opens c.loop-i.only_holes c.has_below.result c.loop-i.i c.index-list-i.result (subst (IsSorted g.S.Scheme.order) (sym items) c.as_slice-list.ensures.sorted) c.loop-i-test.true c.index-list-i.is
    (sym c.compare.ensures.order ∙ c.in-Greater.is) c.has_below.ensures c.loop-i.invariant
    ∙ ap (meaning g.S.Scheme.order c.args.version.now) items
