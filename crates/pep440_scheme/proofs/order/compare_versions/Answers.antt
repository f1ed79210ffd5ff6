use Rattle.std.proofs.Common.{[], sym, subst}
use Rattle.vx_spec.proofs.RowLaws.{rows_decide}
use Rattle.vx_order.specs.Letters.{letters_cmp}
use Rattle.vx_order.proofs.LetterLaws.{letters_total}
use Rattle.pep440_scheme.specs.Order.{end_rank, key, AnswersKeys}
use Rattle.pep440_scheme.proofs.order.compare_versions.Goals as goal

pub returns-clause-places : goal.returns-clause-places
returns-clause-places c =
    let a = c.args.a.now in
    let b = c.args.b.now in
    subst (AnswersKeys a b) (sym c.compare_fields.ensures) (rows_decide (letters_cmp end_rank) (letters_total end_rank) [] (key a) (key b))
