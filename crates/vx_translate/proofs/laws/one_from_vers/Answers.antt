use Rattle.std.proofs.Common.{◌≡◌, ◌≢◌, ℕ, List}
use Rattle.vx_scheme.specs.declared.domain.Domain.{Domain}
use Rattle.vx_translate.specs.declared.refusal.Refusal.{Refusal}
use Rattle.vx_translate.specs.declared.refusal.Refusal.TheVariants.{BadVers, NoMemory}
use Rattle.vx_translate.specs.declared.refusal.VersPart.TheVariants.{Head}
use Rattle.vx_translate.specs.Domains.{chosen_domain}
use Rattle.vx_translate.specs.Steps.Rows.{IsRowBack, IsRowBackRefused}
use Rattle.vx_scheme.proofs.NameLaws.{by_scheme}
use Rattle.vx_translate.proofs.OneScheme.{by_head, one_refusal, fact_or_refusal}
use Rattle.vx_translate.proofs.laws.one_from_vers.Goals as goal

pub returns-clause-text : goal.returns-clause-text
returns-clause-text c domain vers a b =
    by_head (λ name. IsRowBack (chosen_domain domain name) vers a name) (λ name. IsRowBack (chosen_domain domain name) vers b name) (a ≡ b) vers
    (λ name. by_scheme (λ name. (domain : Domain) (vers a b : List ℕ) → IsRowBack domain vers a name → IsRowBack domain vers b name → a ≡ b)
    c.one_from_vers_of.ensures.text c.one_from_vers_of-2.ensures.text c.one_from_vers_of-3.ensures.text c.one_from_vers_of-4.ensures.text c.one_from_vers_of-5.ensures.text c.one_from_vers_of-6.ensures.text c.one_from_vers_of-7.ensures.text c.one_from_vers_of-8.ensures.text name (chosen_domain domain name) vers a b)

pub returns-clause-refusal : goal.returns-clause-refusal
returns-clause-refusal c domain vers a b some also =
    one_refusal NoMemory (BadVers Head 0) (λ name refusal. IsRowBackRefused (chosen_domain domain name) vers refusal name) vers a b some also
    (λ name. by_scheme (λ name. (domain : Domain) (vers : List ℕ) (a b : Refusal) → a ≢ NoMemory → b ≢ NoMemory → IsRowBackRefused domain vers a name → IsRowBackRefused domain vers b name → a ≡ b)
    c.one_from_vers_of.ensures.refusal c.one_from_vers_of-2.ensures.refusal c.one_from_vers_of-3.ensures.refusal c.one_from_vers_of-4.ensures.refusal c.one_from_vers_of-5.ensures.refusal c.one_from_vers_of-6.ensures.refusal c.one_from_vers_of-7.ensures.refusal c.one_from_vers_of-8.ensures.refusal name (chosen_domain domain name) vers a b some also)

pub returns-clause-apart : goal.returns-clause-apart
returns-clause-apart c domain vers text refusal some =
    fact_or_refusal NoMemory (BadVers Head 0) (λ name refusal. IsRowBackRefused (chosen_domain domain name) vers refusal name) vers (λ name. IsRowBack (chosen_domain domain name) vers text name) refusal some
    (λ name. by_scheme (λ name. (domain : Domain) (vers text : List ℕ) (refusal : Refusal) → refusal ≢ NoMemory → IsRowBack domain vers text name → ¬ (IsRowBackRefused domain vers refusal name))
    c.one_from_vers_of.ensures.apart c.one_from_vers_of-2.ensures.apart c.one_from_vers_of-3.ensures.apart c.one_from_vers_of-4.ensures.apart c.one_from_vers_of-5.ensures.apart c.one_from_vers_of-6.ensures.apart c.one_from_vers_of-7.ensures.apart c.one_from_vers_of-8.ensures.apart name (chosen_domain domain name) vers text refusal some)
