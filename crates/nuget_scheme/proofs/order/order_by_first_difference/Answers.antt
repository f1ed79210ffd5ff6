use Rattle.std.proofs.Common.{[]}
use Rattle.vx_spec.proofs.RowLaws.{rows_decide}
use Rattle.vx_order.specs.Idents.{entry_cmp}
use Rattle.vx_order.proofs.IdentLaws.{entries_total}
use Rattle.nuget_scheme.specs.Order.{key}
use Rattle.nuget_scheme.proofs.order.order_by_first_difference.Goals as goal

pub returns : goal.returns
returns c = λ a b. rows_decide entry_cmp entries_total [] (key a) (key b)
