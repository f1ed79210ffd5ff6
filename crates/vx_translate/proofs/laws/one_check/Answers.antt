use Rattle.std.proofs.Common.{◌≡◌, ◌≢◌, ℕ, Bool, List}
use Rattle.vx_translate.specs.declared.check_refusal.CheckRefusal.{CheckRefusal}
use Rattle.vx_translate.specs.declared.check_refusal.CheckRefusal.TheVariants.{Vers, NoMemory}
use Rattle.vx_translate.specs.declared.refusal.Refusal.TheVariants.{BadVers}
use Rattle.vx_translate.specs.declared.refusal.VersPart.TheVariants.{Head}
use Rattle.vx_translate.specs.Steps.Rows.{IsRowCheck, IsRowCheckRefused}
use Rattle.vx_scheme.proofs.NameLaws.{by_scheme}
use Rattle.vx_translate.proofs.OneScheme.{by_head, one_refusal, fact_or_refusal}
use Rattle.vx_translate.proofs.laws.one_check.Goals as goal

pub returns-clause-decision : goal.returns-clause-decision
returns-clause-decision c purl vers a b =
    by_head (IsRowCheck purl vers a) (IsRowCheck purl vers b) (a ≡ b) vers
    (λ name. by_scheme (λ name. (purl vers : List ℕ) (a b : Bool) → IsRowCheck purl vers a name → IsRowCheck purl vers b name → a ≡ b)
    c.one_check_of.ensures.decision c.one_check_of-2.ensures.decision c.one_check_of-3.ensures.decision c.one_check_of-4.ensures.decision c.one_check_of-5.ensures.decision c.one_check_of-6.ensures.decision c.one_check_of-7.ensures.decision c.one_check_of-8.ensures.decision name purl vers a b)

pub returns-clause-refusal : goal.returns-clause-refusal
returns-clause-refusal c purl vers a b some also =
    one_refusal NoMemory (Vers (BadVers Head 0)) (λ name refusal. IsRowCheckRefused purl vers refusal name) vers a b some also
    (λ name. by_scheme (λ name. (purl vers : List ℕ) (a b : CheckRefusal) → a ≢ NoMemory → b ≢ NoMemory → IsRowCheckRefused purl vers a name → IsRowCheckRefused purl vers b name → a ≡ b)
    c.one_check_of.ensures.refusal c.one_check_of-2.ensures.refusal c.one_check_of-3.ensures.refusal c.one_check_of-4.ensures.refusal c.one_check_of-5.ensures.refusal c.one_check_of-6.ensures.refusal c.one_check_of-7.ensures.refusal c.one_check_of-8.ensures.refusal name purl vers a b some also)

pub returns-clause-apart : goal.returns-clause-apart
returns-clause-apart c purl vers decision refusal some =
    fact_or_refusal NoMemory (Vers (BadVers Head 0)) (λ name refusal. IsRowCheckRefused purl vers refusal name) vers (IsRowCheck purl vers decision) refusal some
    (λ name. by_scheme (λ name. (purl vers : List ℕ) (decision : Bool) (refusal : CheckRefusal) → refusal ≢ NoMemory → IsRowCheck purl vers decision name → ¬ (IsRowCheckRefused purl vers refusal name))
    c.one_check_of.ensures.apart c.one_check_of-2.ensures.apart c.one_check_of-3.ensures.apart c.one_check_of-4.ensures.apart c.one_check_of-5.ensures.apart c.one_check_of-6.ensures.apart c.one_check_of-7.ensures.apart c.one_check_of-8.ensures.apart name purl vers decision refusal some)
