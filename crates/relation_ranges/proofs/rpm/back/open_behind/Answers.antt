use Rattle.std.proofs.Common.{sym, ◌∙◌}
use Rattle.std.proofs.lemmas.Result.{err_from_is_err_and}
use Rattle.relation_ranges.proofs.RpmTexts.{gap_behind}
use Rattle.relation_ranges.proofs.rpm.back.open_behind.Goals as goal

pub returns-in_err-joined-in-Some-clause-err : goal.returns-in_err-joined-in-Some-clause-err
returns-in_err-joined-in-Some-clause-err c =
    let p = err_from_is_err_and c.from_residual.result c.from_residual.ensures.1 in
    let apart = c.in_err-joined-in-Some.ensures.err in
    rw (p.1, p.2) (gap_behind c.args.domain c.args.start c.in-Some.before c.args.next c.in_err-joined-in-Some.field-0.0 c.in-Some.is (sym c.meets.ensures ∙ c.if-meets.false) apart.0 apart.1)
