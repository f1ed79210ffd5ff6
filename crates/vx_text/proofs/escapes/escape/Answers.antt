use Rattle.std.proofs.Common.{arith, ◌++◌, ◌∙◌, ap}
use Rattle.std.proofs.lemmas.Result.{on_ok_weaker}
use Rattle.std.proofs.lemmas.List.Elements.{All-from_get_or}
use Rattle.percent_encoding.proofs.PercentLemmas.{IsByte}
use Rattle.vx_text.proofs.EscapeLaws.{escaped-is}
use Rattle.vx_text.proofs.escapes.escape.Goals as goal

pub returns-clause-ok : goal.returns-clause-ok
returns-clause-ok c =
    let small = All-from_get_or IsByte c.args.text.now 0 (λ i within. omega (arith, c.type_inv.text i)) in
    let same = c.as_str.ensures.value ∙ c.in_ok-written.ensures.value ∙ c.utf8_percent_encode.ensures.text ∙ escaped-is c.args.text.now small in
    on_ok_weaker c.push_str.result (λ h. h ∙ ap (λ l. c.args.out.now ++ l) same) c.push_str.ensures.ok
