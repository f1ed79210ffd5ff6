use Rattle.std.proofs.Common.{◌≡◌, ◌∙◌, ap, sym, subst, take, length, arith, IsUtf8}
use Rattle.purl_core.proofs.Printed.{printed}
use Rattle.purl_core.proofs.Written.{grown_front, grown_length}
use Rattle.purl_core.proofs.writing.write.Goals as goal

pub returns-in-Ok-clause-again : goal.returns-in-Ok-clause-again
returns-in-Ok-clause-again c = printed c.args.purl.now c.push_purl.ensures.valid

pub returns-in-Err-clause-again : goal.returns-in-Err-clause-again
returns-in-Err-clause-again c = printed c.args.purl.now c.push_purl.ensures.valid

pub cut-requires-clause-within : goal.cut-requires-clause-within
cut-requires-clause-within c = omega (arith, grown_length c.args.out.now c.push_purl.new.out c.in-Err.ensures.err, ap length c.as_str-len.ensures)

pub cut-requires-clause-text : goal.cut-requires-clause-text
cut-requires-clause-text c =
    let size : length c.as_str-len.result.now ≡ length c.args.out.now = ap length c.as_str-len.ensures in
    let front = ap (λ n. take n c.push_purl.new.out) size ∙ grown_front c.args.out.now c.push_purl.new.out c.in-Err.ensures.err in
    subst IsUtf8 (sym front) (subst IsUtf8 c.as_str-len.ensures c.as_str-len.utf8)

pub returns-in-Err-clause-err : goal.returns-in-Err-clause-err
returns-in-Err-clause-err c =
    let size : length c.as_str-len.result.now ≡ length c.args.out.now = ap length c.as_str-len.ensures in
    c.cut.ensures ∙ ap (λ n. take n c.push_purl.new.out) size ∙ grown_front c.args.out.now c.push_purl.new.out c.in-Err.ensures.err
