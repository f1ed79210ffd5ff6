use Rattle.std.proofs.Common.{sym, ◌∙◌}
use Rattle.vx_order.specs.Laws.Dotted.{uncut}
use Rattle.vx_order.proofs.dotted.cut_apart.Goals as goal

pub returns-then-is_core : goal.returns-then-is_core
returns-then-is_core c = uncut c.args.text.now (sym c.is_core.ensures ∙ c.if-is_core.true)
