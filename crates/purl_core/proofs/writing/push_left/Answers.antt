use Rattle.std.proofs.Common.{◌≡◌, ◌++◌, ◌∙◌, ap, sym, true, List, ℕ}
use Rattle.std.proofs.lemmas.Result.{on_ok_weaker}
use Rattle.vx_spec.proofs.TextLaws.{each_by_test}
use Rattle.vx_text.specs.Escapes.{is_left}
use Rattle.vx_text.proofs.EscapeLaws.{escaped_left}
use Rattle.purl_core.proofs.writing.push_left.Goals as goal

pub returns-clause-ok : goal.returns-clause-ok
returns-clause-ok c =
    let text = c.args.text.now in
    let left = each_by_test (λ b. is_left b ≡ true) is_left text (λ b e. e) c.requires in
    on_ok_weaker c.push_str.result (λ h. h ∙ ap (λ (t : List ℕ). c.args.out.now ++ t) (sym (escaped_left text left))) c.push_str.ensures.ok
