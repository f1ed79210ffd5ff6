use Rattle.std.proofs.Common.{◌∙◌, sym, subst, IsUtf8}
use Rattle.purl_core.proofs.Plain.{unescaped_plain}
use Rattle.purl_core.proofs.decoding.copy_plain.Goals as goal

pub returns-in_ok-copy_of-in-Ok : goal.returns-in_ok-copy_of-in-Ok
returns-in_ok-copy_of-in-Ok c =
    let same = unescaped_plain c.args.bytes.now c.requires in
    let whole = c.in-Ok.ensures.cases in
    (subst IsUtf8 (sym same) whole.1, c.in_ok-copy_of-in-Ok.ensures ∙ whole.0 ∙ sym same)

pub returns-in-Err : goal.returns-in-Err
returns-in-Err c = λ text. c.in-Err.ensures.cases.0 (subst IsUtf8 (unescaped_plain c.args.bytes.now c.requires) text)
