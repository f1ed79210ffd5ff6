-- Texts have one canonical text, one comparison or one refusal, and never two of these.
use Rattle.std.proofs.Common.{◌≡◌, ◌≢◌, ◌↔◌, ℕ, Bool, true, false, IsTrue, List, Ok, Err, refl, sym, ap, subst, ◌∙◌, inl, inr}
use Rattle.purl_core.specs.Value.{Package}
use Rattle.purl_core.specs.Spelling.{SpellsPurl}
use Rattle.purl_core.specs.Printed.{purl_text}
use Rattle.purl_core.specs.Reading.{IsRefused}
use Rattle.purl_core.specs.declared.fault.PurlFault.{PurlFault}
use Rattle.purl_core.specs.declared.fault.PurlFault.TheVariants.{NoMemory}
use Rattle.purl_core.proofs.OneRefusal.{one_refusal}
use Rattle.purl_core.proofs.OneValue.{one_value}
use Rattle.purl_core.proofs.Unspelled.{unspelled}
use Rattle.purl_types.specs.Folding.{folded_purl}
use Rattle.purl_types.specs.Same.{Same}
use Rattle.purl_types.specs.Canonical.{IsCanonical, IsComparedAs}

pub one_text : (text a b : List ℕ) → IsCanonical text a → IsCanonical text b → a ≡ b
one_text text a b p q = p.printed ∙ ap (λ purl. purl_text (folded_purl purl)) (one_value text p.purl q.purl p.spells q.spells) ∙ sym q.printed

pub text_or_refusal : (text canonical : List ℕ) (fault : PurlFault) → fault ≢ NoMemory → IsCanonical text canonical → IsRefused text fault → ⊥
text_or_refusal text canonical fault some p r = some (unspelled text fault p.purl r p.spells)

-- two answers to one question are one
one_told : {P : Type 0} (a b : Bool) → (IsTrue a ↔ P) → (IsTrue b ↔ P) → a ≡ b
one_told true true p q = refl
one_told true false p q = sym (q.1 (p.0 refl))
one_told false true p q = p.1 (q.0 refl)
one_told false false p q = refl

pub one_decision : (first second : List ℕ) (a b : Bool) → IsComparedAs first second (Ok a) → IsComparedAs first second (Ok b) → a ≡ b
one_decision first second a b (p, q, x, y, told) (r, s, z, w, also) =
    one_told a b told (subst (λ l. IsTrue b ↔ Same l q) (one_value first r p z x) (subst (λ l. IsTrue b ↔ Same r l) (one_value second s q w y) also))

-- a text that spells a package URL is not refused
spelled_or_refused : (text : List ℕ) (p : Package) (fault : PurlFault) → fault ≢ NoMemory → SpellsPurl text p → IsRefused text fault → ⊥
spelled_or_refused text p fault some x r = some (unspelled text fault p r x)

pub one_comparison_refusal : (first second : List ℕ) (a b : PurlFault) → a ≢ NoMemory → b ≢ NoMemory → IsComparedAs first second (Err a) → IsComparedAs first second (Err b) → a ≡ b
one_comparison_refusal first second a b some also (inl p) (inl q) = one_refusal first a b p q some also
one_comparison_refusal first second a b some also (inl p) (inr (r, x, q)) = absurd (spelled_or_refused first r a some x p)
one_comparison_refusal first second a b some also (inr (r, x, p)) (inl q) = absurd (spelled_or_refused first r b also x q)
one_comparison_refusal first second a b some also (inr (r, x, p)) (inr (s, y, q)) = one_refusal second a b p q some also

pub decision_or_refusal : (first second : List ℕ) (decision : Bool) (fault : PurlFault) → fault ≢ NoMemory → IsComparedAs first second (Ok decision) → IsComparedAs first second (Err fault) → ⊥
decision_or_refusal first second decision fault some (p, q, x, y, told) (inl r) = spelled_or_refused first p fault some x r
decision_or_refusal first second decision fault some (p, q, x, y, told) (inr (s, z, r)) = spelled_or_refused second q fault some y r
