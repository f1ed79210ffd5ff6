use Rattle.std.proofs.Common.{[], sym, subst}
use Rattle.vx_spec.proofs.RowLaws.{rows_decide}
use Rattle.vx_order.specs.Idents.{entry_cmp, idents_key, IdentsCompareAs}
use Rattle.vx_order.proofs.IdentLaws.{entries_total}
use Rattle.vx_order.proofs.idents.compare_idents.Goals as goal

pub returns-clause-places : goal.returns-clause-places
returns-clause-places c =
    let a = c.args.a.now in
    let b = c.args.b.now in
    let rule = c.args.rule in
    subst (IdentsCompareAs rule a b) (sym c.compare_keys.ensures) (rows_decide entry_cmp entries_total [] (idents_key rule a) (idents_key rule b))
