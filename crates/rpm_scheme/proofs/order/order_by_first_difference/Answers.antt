use Rattle.std.proofs.Common.{[]}
use Rattle.vx_spec.proofs.RowLaws.{rows_decide}
use Rattle.vx_order.specs.Letters.{letters_cmp}
use Rattle.vx_order.proofs.LetterLaws.{letters_total}
use Rattle.rpm_scheme.specs.Version.{end_rank}
use Rattle.rpm_scheme.specs.Order.{key}
use Rattle.rpm_scheme.proofs.order.order_by_first_difference.Goals as goal

pub returns : goal.returns
returns c = λ a b. rows_decide (letters_cmp end_rank) (letters_total end_rank) [] (key a) (key b)
