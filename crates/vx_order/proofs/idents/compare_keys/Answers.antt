use Rattle.std.proofs.Common.{sym, ap, ◌∙◌, arith}
use Rattle.std.specs.Ordering.{ordering_reverse}
use Rattle.std.proofs.lemmas.Bool.Decides.{nat_tests}
use Rattle.vx_order.proofs.IdentLaws.{idents_total, headed}
use Rattle.vx_order.proofs.idents.compare_keys.Goals as goal

pub returns-in-empty-len1-up : goal.returns-in-empty-len1-up
returns-in-empty-len1-up c =
    headed c.args.rule c.args.a.now c.args.b.now c.ident-item.result _ (grind arith) (grind (arith, nat_tests)) c.ident-item.is c.compare_empty.ensures

pub returns-in-len1-up-empty : goal.returns-in-len1-up-empty
returns-in-len1-up-empty c =
    let turned = headed c.args.rule c.args.b.now c.args.a.now c.ident-item-then-this-lt1.result _ (grind arith) (grind (arith, nat_tests)) c.ident-item-then-this-lt1.is c.compare_empty-in-len1-up-empty.ensures in
    c.reverse.ensures ∙ ap ordering_reverse turned ∙ sym ((idents_total c.args.rule).antisymm c.args.a.now c.args.b.now)
