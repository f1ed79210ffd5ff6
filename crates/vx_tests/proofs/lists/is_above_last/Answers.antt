use Rattle.std.proofs.Common.{sym, ◌∙◌}
use Rattle.vx_tests.proofs.AboveLaws.{above_last}
use Rattle.vx_tests.proofs.lists.is_above_last.Goals as goal

pub returns-in-Less : goal.returns-in-Less
returns-in-Less g c _ = above_last g.S.Scheme.order c.args.list.now c.last-item.result c.args.version.now c.last-item.is (sym c.compare.ensures.order ∙ c.in-Less.is)
