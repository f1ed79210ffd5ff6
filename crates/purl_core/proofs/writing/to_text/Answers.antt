use Rattle.std.proofs.Common.{◌≡◌, ◌++◌, ◌∙◌, ap, sym, subst, List, ℕ}
use Rattle.purl_core.specs.Printed.{purl_text}
use Rattle.purl_core.specs.Spelling.{SpellsPurl}
use Rattle.purl_core.proofs.Printed.{printed}
use Rattle.purl_core.proofs.writing.to_text.Goals as goal

pub returns-clause-again : goal.returns-clause-again
returns-clause-again c =
    let purl = c.args.purl.now in
    let is : c.push_purl.new.out ≡ purl_text purl = c.in_ok-push_purl.ensures.ok ∙ ap (λ (t : List ℕ). t ++ purl_text purl) c.in_ok-text.ensures in
    subst (λ (t : List ℕ). SpellsPurl t purl) (sym is) (printed purl c.in_ok-push_purl.ensures.valid)
