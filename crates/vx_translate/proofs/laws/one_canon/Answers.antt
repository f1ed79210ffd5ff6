use Rattle.std.proofs.Common.{◌≡◌, ◌≢◌, ℕ, List}
use Rattle.vx_translate.specs.declared.refusal.Refusal.{Refusal}
use Rattle.vx_translate.specs.declared.refusal.Refusal.TheVariants.{BadVers, NoMemory}
use Rattle.vx_translate.specs.declared.refusal.VersPart.TheVariants.{Head}
use Rattle.vx_translate.specs.Steps.Rows.{IsRowCanon, IsRowCanonRefused}
use Rattle.vx_scheme.proofs.NameLaws.{by_scheme}
use Rattle.vx_translate.proofs.OneScheme.{by_head, one_refusal, fact_or_refusal}
use Rattle.vx_translate.proofs.laws.one_canon.Goals as goal

pub returns-clause-text : goal.returns-clause-text
returns-clause-text c vers a b =
    by_head (IsRowCanon vers a) (IsRowCanon vers b) (a ≡ b) vers
    (λ name. by_scheme (λ name. (vers a b : List ℕ) → IsRowCanon vers a name → IsRowCanon vers b name → a ≡ b)
    c.one_canon_of.ensures.text c.one_canon_of-2.ensures.text c.one_canon_of-3.ensures.text c.one_canon_of-4.ensures.text c.one_canon_of-5.ensures.text c.one_canon_of-6.ensures.text c.one_canon_of-7.ensures.text c.one_canon_of-8.ensures.text name vers a b)

pub returns-clause-refusal : goal.returns-clause-refusal
returns-clause-refusal c vers a b some also =
    one_refusal NoMemory (BadVers Head 0) (λ name refusal. IsRowCanonRefused vers refusal name) vers a b some also
    (λ name. by_scheme (λ name. (vers : List ℕ) (a b : Refusal) → a ≢ NoMemory → b ≢ NoMemory → IsRowCanonRefused vers a name → IsRowCanonRefused vers b name → a ≡ b)
    c.one_canon_of.ensures.refusal c.one_canon_of-2.ensures.refusal c.one_canon_of-3.ensures.refusal c.one_canon_of-4.ensures.refusal c.one_canon_of-5.ensures.refusal c.one_canon_of-6.ensures.refusal c.one_canon_of-7.ensures.refusal c.one_canon_of-8.ensures.refusal name vers a b some also)

pub returns-clause-apart : goal.returns-clause-apart
returns-clause-apart c vers text refusal some =
    fact_or_refusal NoMemory (BadVers Head 0) (λ name refusal. IsRowCanonRefused vers refusal name) vers (IsRowCanon vers text) refusal some
    (λ name. by_scheme (λ name. (vers text : List ℕ) (refusal : Refusal) → refusal ≢ NoMemory → IsRowCanon vers text name → ¬ (IsRowCanonRefused vers refusal name))
    c.one_canon_of.ensures.apart c.one_canon_of-2.ensures.apart c.one_canon_of-3.ensures.apart c.one_canon_of-4.ensures.apart c.one_canon_of-5.ensures.apart c.one_canon_of-6.ensures.apart c.one_canon_of-7.ensures.apart c.one_canon_of-8.ensures.apart name vers text refusal some)
