-- A VERS text and a version have one answer or one refusal, and never both.
use Rattle.std.proofs.Common.{◌≡◌, ◌≢◌, ◌⊎◌, ℕ, Bool, List, refl, sym, ap, subst, ◌∙◌, inl, inr}
use Rattle.std.specs.Cmp.{IsTotalOrder}
use Rattle.vx_scheme.specs.declared.scheme.Scheme.{Ghosts as Scheme}
use Rattle.vx_scheme.specs.Scheme.{TextLaws}
use Rattle.vx_vers.specs.Meaning.{meaning}
use Rattle.vx_translate.specs.Having.{TellsMembership, IsBadVersion, RefusesMembership}
use Rattle.vx_translate.specs.VersTexts.{IsBadVers}
use Rattle.vx_translate.specs.declared.refusal.Refusal.{Refusal}
use Rattle.vx_translate.specs.declared.refusal.Refusal.TheVariants as refused
use Rattle.vx_translate.proofs.OneList.{one_read, one_bad, read_or_bad}

module _ {S V : Type 0} (scheme : Scheme S V) (total : IsTotalOrder scheme.order) (texts : TextLaws scheme.order scheme.IsVersion scheme.IsWithin scheme.Spells scheme.normal) (text version : List ℕ) where
  pub one_decision : (a b : Bool) → TellsMembership scheme text version a → TellsMembership scheme text version b → a ≡ b
  one_decision a b p q =
      p.means ∙ ap (meaning scheme.order p.v) (one_read scheme total texts text p.list q.list p.read q.read)
      ∙ ap (λ v. meaning scheme.order v q.list) (texts.spells_one version p.v q.v p.spelled q.spelled) ∙ sym q.means

  -- ---- the causes of a refusal

  abbrev HasCause : Refusal → Type 0
  HasCause refusal = IsBadVers scheme text refusal ⊎ ((refusal ≡ refused.BadVersion) × IsBadVersion scheme text version)

  cause : (refusal : Refusal) → refusal ≢ refused.NoMemory → RefusesMembership scheme text version refusal → HasCause refusal
  cause (refused.BadVers part k) some r = inl r
  cause refused.BadVersion some r = inr (refl, r)
  cause refused.DomainNotOffered some r = absurd r
  cause (refused.Syntax at) some r = absurd r
  cause (refused.Numeral at) some r = absurd r
  cause (refused.NoEndpoint kind at) some r = absurd r
  cause refused.Empty some r = absurd r
  cause (refused.NoNative kind k) some r = absurd r
  cause refused.NoMemory some r = absurd (some refl)

  one_cause : (a b : Refusal) → HasCause a → HasCause b → a ≡ b
  one_cause a b (inl p) (inl q) = one_bad scheme total texts text a b p q
  one_cause a b (inl p) (inr q) = absurd (read_or_bad scheme total texts text q.1.list a q.1.read p)
  one_cause a b (inr p) (inl q) = absurd (read_or_bad scheme total texts text p.1.list b p.1.read q)
  one_cause a b (inr p) (inr q) = p.0 ∙ sym q.0

  -- a version within the limits is not refused
  not_refused : (decision : Bool) → TellsMembership scheme text version decision → IsBadVersion scheme text version → ⊥
  not_refused decision t b = elim b.refused [
    | inl none ↦ none t.v t.spelled
    | inr past ↦ past.past (subst scheme.IsWithin (texts.spells_one version t.v past.version t.spelled past.spelled) t.within)
  ]

  decision_or_cause : (decision : Bool) (refusal : Refusal) → TellsMembership scheme text version decision → HasCause refusal → ⊥
  decision_or_cause decision refusal t (inl p) = read_or_bad scheme total texts text t.list refusal t.read p
  decision_or_cause decision refusal t (inr p) = not_refused decision t p.1

  pub one_refusal : (a b : Refusal) → a ≢ refused.NoMemory → b ≢ refused.NoMemory → RefusesMembership scheme text version a → RefusesMembership scheme text version b → a ≡ b
  one_refusal a b some also p q = one_cause a b (cause a some p) (cause b also q)

  pub decision_or_refusal : (decision : Bool) (refusal : Refusal) → refusal ≢ refused.NoMemory → TellsMembership scheme text version decision → RefusesMembership scheme text version refusal → ⊥
  decision_or_refusal decision refusal some t r = decision_or_cause decision refusal t (cause refusal some r)
