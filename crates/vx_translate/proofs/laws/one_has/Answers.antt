use Rattle.std.proofs.Common.{◌≡◌, ◌≢◌, ℕ, Bool, List}
use Rattle.vx_translate.specs.declared.refusal.Refusal.{Refusal}
use Rattle.vx_translate.specs.declared.refusal.Refusal.TheVariants.{BadVers, NoMemory}
use Rattle.vx_translate.specs.declared.refusal.VersPart.TheVariants.{Head}
use Rattle.vx_translate.specs.Steps.Rows.{IsRowHas, IsRowHasRefused}
use Rattle.vx_scheme.proofs.NameLaws.{by_scheme}
use Rattle.vx_translate.proofs.OneScheme.{by_head, one_refusal, fact_or_refusal}
use Rattle.vx_translate.proofs.laws.one_has.Goals as goal

pub returns-clause-decision : goal.returns-clause-decision
returns-clause-decision c vers version a b =
    by_head (IsRowHas vers version a) (IsRowHas vers version b) (a ≡ b) vers
    (λ name. by_scheme (λ name. (vers version : List ℕ) (a b : Bool) → IsRowHas vers version a name → IsRowHas vers version b name → a ≡ b)
    c.one_has_of.ensures.decision c.one_has_of-2.ensures.decision c.one_has_of-3.ensures.decision c.one_has_of-4.ensures.decision c.one_has_of-5.ensures.decision c.one_has_of-6.ensures.decision c.one_has_of-7.ensures.decision c.one_has_of-8.ensures.decision name vers version a b)

pub returns-clause-refusal : goal.returns-clause-refusal
returns-clause-refusal c vers version a b some also =
    one_refusal NoMemory (BadVers Head 0) (λ name refusal. IsRowHasRefused vers version refusal name) vers a b some also
    (λ name. by_scheme (λ name. (vers version : List ℕ) (a b : Refusal) → a ≢ NoMemory → b ≢ NoMemory → IsRowHasRefused vers version a name → IsRowHasRefused vers version b name → a ≡ b)
    c.one_has_of.ensures.refusal c.one_has_of-2.ensures.refusal c.one_has_of-3.ensures.refusal c.one_has_of-4.ensures.refusal c.one_has_of-5.ensures.refusal c.one_has_of-6.ensures.refusal c.one_has_of-7.ensures.refusal c.one_has_of-8.ensures.refusal name vers version a b some also)

pub returns-clause-apart : goal.returns-clause-apart
returns-clause-apart c vers version decision refusal some =
    fact_or_refusal NoMemory (BadVers Head 0) (λ name refusal. IsRowHasRefused vers version refusal name) vers (IsRowHas vers version decision) refusal some
    (λ name. by_scheme (λ name. (vers version : List ℕ) (decision : Bool) (refusal : Refusal) → refusal ≢ NoMemory → IsRowHas vers version decision name → ¬ (IsRowHasRefused vers version refusal name))
    c.one_has_of.ensures.apart c.one_has_of-2.ensures.apart c.one_has_of-3.ensures.apart c.one_has_of-4.ensures.apart c.one_has_of-5.ensures.apart c.one_has_of-6.ensures.apart c.one_has_of-7.ensures.apart c.one_has_of-8.ensures.apart name vers version decision refusal some)
