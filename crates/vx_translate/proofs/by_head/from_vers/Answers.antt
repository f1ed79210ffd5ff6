use Rattle.std.proofs.Common.{◌≡◌, ◌∙◌, ap, subst}
use Rattle.std.proofs.lemmas.Result.{IfOk-weaker}
use Rattle.vx_scheme.specs.declared.name.SchemeName.TheVariants.{Maven, Nuget}
use Rattle.bracket_ranges.specs.Maven.Members.{maven_scheme, maven_native}
use Rattle.bracket_ranges.specs.Nuget.Members.{nuget_scheme, nuget_native}
use Rattle.vx_translate.specs.Backward.{KeepsMembers}
use Rattle.vx_translate.specs.Domains.{chosen_domain}
use Rattle.vx_translate.proofs.by_head.from_vers.Goals as goal

pub returns-in-Maven-clause-members : goal.returns-in-Maven-clause-members
returns-in-Maven-clause-members c =
    let domain : c.chosen_domain-domain.result ≡ chosen_domain c.args.domain Maven = c.chosen_domain-domain.ensures ∙ ap (chosen_domain c.args.domain) c.in-Maven.is in
    IfOk-weaker c.translate_back-in-Maven.result _ _
    (λ out keeps. (c.in_ok-name.name, c.in_ok-name.ensures.ok, rw c.in-Maven.is (subst (λ d. KeepsMembers maven_scheme maven_native d c.args.text.now out) domain keeps)))
    c.translate_back-in-Maven.ensures.members

pub returns-in-Nuget-clause-members : goal.returns-in-Nuget-clause-members
returns-in-Nuget-clause-members c =
    let domain : c.chosen_domain-domain.result ≡ chosen_domain c.args.domain Nuget = c.chosen_domain-domain.ensures ∙ ap (chosen_domain c.args.domain) c.in-Nuget.is in
    IfOk-weaker c.translate_back-in-Nuget.result _ _
    (λ out keeps. (c.in_ok-name.name, c.in_ok-name.ensures.ok, rw c.in-Nuget.is (subst (λ d. KeepsMembers nuget_scheme nuget_native d c.args.text.now out) domain keeps)))
    c.translate_back-in-Nuget.ensures.members
