use Rattle.vx_spec.proofs.RowLaws.{rows_decide}
use Rattle.vx_order.specs.Letters.{letter_cmp, end_letter}
use Rattle.vx_order.proofs.LetterLaws.{letter_total}
use Rattle.gem_scheme.specs.Order.{key, number_rank}
use Rattle.gem_scheme.proofs.order.order_by_first_difference.Goals as goal

pub returns : goal.returns
returns c = λ a b. rows_decide letter_cmp letter_total (end_letter number_rank) (key a) (key b)
