use Rattle.std.proofs.Common.{◌≡◌, ◌≢◌, ℕ, List}
use Rattle.vx_scheme.specs.declared.domain.Domain.{Domain}
use Rattle.vx_translate.specs.declared.refusal.Refusal.{Refusal}
use Rattle.vx_translate.specs.declared.refusal.Refusal.TheVariants.{NoMemory}
use Rattle.vx_translate.specs.Names.{IsTranslated, IsRefused}
use Rattle.vx_scheme.proofs.NameLaws.{by_scheme}
use Rattle.vx_translate.proofs.laws.one_to_vers.Goals as goal

pub returns-clause-text : goal.returns-clause-text
returns-clause-text c =
    by_scheme (λ name. (domain : Domain) (range a b : List ℕ) → IsTranslated name domain range a → IsTranslated name domain range b → a ≡ b)
    c.one_to_vers_of.ensures.text c.one_to_vers_of-2.ensures.text c.one_to_vers_of-3.ensures.text c.one_to_vers_of-4.ensures.text c.one_to_vers_of-5.ensures.text c.one_to_vers_of-6.ensures.text c.one_to_vers_of-7.ensures.text c.one_to_vers_of-8.ensures.text

pub returns-clause-refusal : goal.returns-clause-refusal
returns-clause-refusal c =
    by_scheme (λ name. (domain : Domain) (range : List ℕ) (a b : Refusal) → a ≢ NoMemory → b ≢ NoMemory → IsRefused name domain range a → IsRefused name domain range b → a ≡ b)
    c.one_to_vers_of.ensures.refusal c.one_to_vers_of-2.ensures.refusal c.one_to_vers_of-3.ensures.refusal c.one_to_vers_of-4.ensures.refusal c.one_to_vers_of-5.ensures.refusal c.one_to_vers_of-6.ensures.refusal c.one_to_vers_of-7.ensures.refusal c.one_to_vers_of-8.ensures.refusal

pub returns-clause-apart : goal.returns-clause-apart
returns-clause-apart c =
    by_scheme (λ name. (domain : Domain) (range text : List ℕ) (refusal : Refusal) → refusal ≢ NoMemory → IsTranslated name domain range text → ¬ (IsRefused name domain range refusal))
    c.one_to_vers_of.ensures.apart c.one_to_vers_of-2.ensures.apart c.one_to_vers_of-3.ensures.apart c.one_to_vers_of-4.ensures.apart c.one_to_vers_of-5.ensures.apart c.one_to_vers_of-6.ensures.apart c.one_to_vers_of-7.ensures.apart c.one_to_vers_of-8.ensures.apart
