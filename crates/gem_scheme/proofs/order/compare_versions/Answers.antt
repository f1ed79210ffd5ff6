use Rattle.std.proofs.Common.{sym, subst}
use Rattle.vx_spec.proofs.RowLaws.{rows_decide}
use Rattle.vx_order.specs.Letters.{letter_cmp, end_letter}
use Rattle.vx_order.proofs.LetterLaws.{letter_total}
use Rattle.gem_scheme.specs.Order.{AnswersKeys, key, number_rank}
use Rattle.gem_scheme.proofs.order.compare_versions.Goals as goal

pub returns-clause-places : goal.returns-clause-places
returns-clause-places c =
    let a = c.args.a.now in
    let b = c.args.b.now in
    subst (AnswersKeys a b) (sym c.compare_rows.ensures) (rows_decide letter_cmp letter_total (end_letter number_rank) (key a) (key b))
