use Rattle.std.proofs.Common.{[], sym, subst}
use Rattle.vx_spec.proofs.RowLaws.{rows_decide}
use Rattle.vx_order.specs.Idents.{entry_cmp}
use Rattle.vx_order.proofs.IdentLaws.{entries_total}
use Rattle.nuget_scheme.specs.Order.{key, AnswersKeys}
use Rattle.nuget_scheme.proofs.order.compare_versions.Goals as goal

pub returns-clause-places : goal.returns-clause-places
returns-clause-places c =
    let a = c.args.a.now in
    let b = c.args.b.now in
    subst (AnswersKeys a b) (sym c.compare_fields.ensures) (rows_decide entry_cmp entries_total [] (key a) (key b))
