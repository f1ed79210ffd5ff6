use Rattle.vx_spec.proofs.RowLaws.{rows_decide}
use Rattle.vx_order.specs.Letters.{letter_cmp, end_letter}
use Rattle.vx_order.proofs.LetterLaws.{letter_total, letters_total, equal_without_end, equal_by_ended}
use Rattle.vx_order.proofs.letters.order_by_letters.Goals as goal

pub returns-clause-total : goal.returns-clause-total
returns-clause-total c = letters_total c.args.end_rank

pub returns-clause-places : goal.returns-clause-places
returns-clause-places c = λ a b. rows_decide letter_cmp letter_total (end_letter c.args.end_rank) a b

pub returns-clause-equal : goal.returns-clause-equal
returns-clause-equal c = λ a b. (equal_without_end c.args.end_rank a b, equal_by_ended c.args.end_rank a b)
