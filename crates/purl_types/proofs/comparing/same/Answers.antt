use Rattle.std.proofs.Common.{◌≡◌, refl, rules, subst, List, ℕ}
use Rattle.purl_core.specs.Spelling.{SpellsPurl}
use Rattle.purl_types.proofs.SameLaws.{same_folded}
use Rattle.purl_types.proofs.comparing.same.Goals as goal

pub returns-then-eq : goal.returns-then-eq
returns-then-eq c =
    let one : c.args.a.now ≡ c.args.b.now = search rules in
    let purl = c.in-Ok.first in
    (purl, purl, c.in-Ok.ensures, subst (λ (text : List ℕ). SpellsPurl text purl) one c.in-Ok.ensures, ((λ told. same_folded purl purl refl), (λ is. refl)))
