use Rattle.std.proofs.Common.{sym, subst}
use Rattle.vx_vers.specs.Steps.Numbering.{AreTaken}
use Rattle.vx_vers.proofs.SettleLaws.{one_taken}
use Rattle.vx_vers.proofs.sorting.take_all.Goals as goal

pub items-preserved : goal.items-preserved
items-preserved g c =
    subst (AreTaken c.args.list.now c.pop.new.self) (sym c.in_ok-push.ensures.ok)
    (one_taken c.args.list.now c.items.list c.pop.new.self c.items.items c.in-Some.constraint c.len-number.result c.items.invariant c.in-Some.ensures c.len-number.ensures)
