use Rattle.std.proofs.Common.{[]}
use Rattle.vx_spec.proofs.RowLaws.{rows_decide}
use Rattle.vx_order.specs.Idents.{entry_cmp, idents_key}
use Rattle.vx_order.proofs.IdentLaws.{entries_total, idents_total}
use Rattle.vx_order.proofs.idents.order_by_idents.Goals as goal

pub returns-clause-total : goal.returns-clause-total
returns-clause-total c = idents_total c.args.rule

pub returns-clause-places : goal.returns-clause-places
returns-clause-places c = λ a b. rows_decide entry_cmp entries_total [] (idents_key c.args.rule a) (idents_key c.args.rule b)
