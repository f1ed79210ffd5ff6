-- What is so of each scheme is so of the one that the head of a text names.
use Rattle.std.proofs.Common.{◌≡◌, ◌≢◌, ◌⊎◌, ℕ, List, sym, subst, ◌∙◌, inl, inr}
use Rattle.vx_scheme.specs.declared.name.SchemeName.{SchemeName}
use Rattle.vx_vers.specs.Heads.{NoHead}
use Rattle.vx_vers.proofs.HeadLaws.{one_head}
use Rattle.vx_translate.specs.VersTexts.{OfHead, ComesByHead}

module _ (P Q : SchemeName → Type 0) (C : Type 0) (text : List ℕ) (both : (name : SchemeName) → P name → Q name → C) where
  pub by_head : OfHead P text → OfHead Q text → C
  by_head (name, h, p) (other, k, q) = both name p (subst Q (sym (one_head h.1 k.1).0) q)

module _ {F : Type 0} (none headless : F) (R : SchemeName → F → Type 0) (text : List ℕ) where
  pub one_refusal : (a b : F) → a ≢ none → b ≢ none → ((name : SchemeName) → R name a → R name b → a ≡ b) → ComesByHead none headless R text a → ComesByHead none headless R text b → a ≡ b
  one_refusal a b some also one p q = by_cause (p some) (q also)
    where
      by_cause : (NoHead text × (a ≡ headless)) ⊎ OfHead (λ name. R name a) text → (NoHead text × (b ≡ headless)) ⊎ OfHead (λ name. R name b) text → a ≡ b
      by_cause (inl h) (inl k) = h.1 ∙ sym k.1
      by_cause (inl h) (inr (name, head, k)) = absurd (h.0 name head)
      by_cause (inr (name, head, h)) (inl k) = absurd (k.0 name head)
      by_cause (inr h) (inr k) = by_head (λ name. R name a) (λ name. R name b) (a ≡ b) text one h k

  pub fact_or_refusal : (P : SchemeName → Type 0) (refusal : F) → refusal ≢ none → ((name : SchemeName) → P name → R name refusal → ⊥) → OfHead P text → ComesByHead none headless R text refusal → ⊥
  fact_or_refusal P refusal some apart h r = elim (r some) [
    | inl lacks ↦ lacks.0 h.0 h.1
    | inr k ↦ by_head P (λ name. R name refusal) ⊥ text apart h k
  ]
