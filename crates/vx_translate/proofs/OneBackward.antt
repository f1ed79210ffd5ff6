-- A VERS text has one range text in a domain or one refusal, and never both.
use Rattle.std.proofs.Common.{◌≡◌, ◌≢◌, ◌⊎◌, ℕ, List, Ok, Err, Result, refl, sym, ap, ◌∙◌, inl, inr}
use Rattle.std.specs.Cmp.{IsTotalOrder}
use Rattle.vx_scheme.specs.declared.back_fault.BackFault.{BackFault}
use Rattle.vx_scheme.specs.declared.domain.Domain.{Domain}
use Rattle.vx_scheme.specs.declared.scheme.Scheme.{Ghosts as Scheme}
use Rattle.vx_scheme.specs.declared.native.Native.{Ghosts as Language}
use Rattle.vx_scheme.specs.Scheme.{TextLaws}
use Rattle.vx_vers.specs.declared.constraints.Constraint.{Constraint}
use Rattle.vx_vers.specs.Meaning.{kind}
use Rattle.vx_simplify.specs.Edges.{spans_of_list}
use Rattle.vx_simplify.specs.Simplified.{simplified}
use Rattle.vx_translate.specs.Backward.{TranslatesBack, HasNoText, RefusesBack}
use Rattle.vx_translate.specs.Refusals.{refusal_of_back}
use Rattle.vx_translate.specs.VersTexts.{SpellsVers, IsBadVers}
use Rattle.vx_translate.specs.declared.refusal.Refusal.{Refusal}
use Rattle.vx_translate.specs.declared.refusal.Refusal.TheVariants as refused
use Rattle.vx_translate.proofs.OneList.{one_read, one_bad, read_or_bad}

module _ {S V : Type 0} (scheme : Scheme S V) (language : Language S V) (total : IsTotalOrder scheme.order) (texts : TextLaws scheme.order scheme.IsVersion scheme.IsWithin scheme.Spells scheme.normal)
    (domain : Domain) (text : List ℕ) where
  -- the way back is a function of the list, and the list is one
  one_back : (a b : List (Constraint V)) (x y : Result (List ℕ) BackFault) → SpellsVers scheme text a → SpellsVers scheme text b
      → language.back domain (spans_of_list (simplified kind a)) ≡ x → language.back domain (spans_of_list (simplified kind b)) ≡ y → x ≡ y
  one_back a b x y p q e f = sym e ∙ ap (λ list. language.back domain (spans_of_list (simplified kind list))) (one_read scheme total texts text a b p q) ∙ f

  pub one_text : (a b : List ℕ) → TranslatesBack scheme language domain text a → TranslatesBack scheme language domain text b → a ≡ b
  one_text a b p q = let e : ◌≡◌ {A = Result (List ℕ) BackFault} (Ok a) (Ok b) = one_back p.list q.list (Ok a) (Ok b) p.read q.read p.printed q.printed in cc e

  -- ---- the causes of a refusal

  abbrev IsNotOffered : Refusal → Type 0
  IsNotOffered refusal = (refusal ≡ refused.DomainNotOffered) × ¬ (language.Offers domain)

  abbrev HasCause : Refusal → Type 0
  HasCause refusal = IsNotOffered refusal ⊎ (language.Offers domain × (IsBadVers scheme text refusal ⊎ HasNoText scheme language domain text refusal))

  cause : (refusal : Refusal) → refusal ≢ refused.NoMemory → RefusesBack scheme language domain text refusal → HasCause refusal
  cause refused.DomainNotOffered some r = inl (refl, r)
  cause (refused.BadVers part k) some r = inr (r.0, inl r.1)
  cause (refused.NoNative kind k) some r = inr (r.0, inr r.1)
  cause (refused.Syntax at) some r = absurd r
  cause (refused.Numeral at) some r = absurd r
  cause (refused.NoEndpoint kind at) some r = absurd r
  cause refused.Empty some r = absurd r
  cause refused.BadVersion some r = absurd r
  cause refused.NoMemory some r = absurd (some refl)

  one_fault : (a b : Refusal) → HasNoText scheme language domain text a → HasNoText scheme language domain text b → a ≡ b
  one_fault a b p q =
      let e : ◌≡◌ {A = Result (List ℕ) BackFault} (Err p.fault) (Err q.fault) = one_back p.list q.list (Err p.fault) (Err q.fault) p.read q.read p.refused q.refused in
      let same : p.fault ≡ q.fault = cc e in
      p.called ∙ ap refusal_of_back same ∙ sym q.called

  one_cause : (a b : Refusal) → HasCause a → HasCause b → a ≡ b
  one_cause a b (inl p) (inl q) = p.0 ∙ sym q.0
  one_cause a b (inl p) (inr q) = absurd (p.1 q.0)
  one_cause a b (inr p) (inl q) = absurd (q.1 p.0)
  one_cause a b (inr (offered, inl p)) (inr (also, inl q)) = one_bad scheme total texts text a b p q
  one_cause a b (inr (offered, inl p)) (inr (also, inr q)) = absurd (read_or_bad scheme total texts text q.list a q.read p)
  one_cause a b (inr (offered, inr p)) (inr (also, inl q)) = absurd (read_or_bad scheme total texts text p.list b p.read q)
  one_cause a b (inr (offered, inr p)) (inr (also, inr q)) = one_fault a b p q

  text_or_cause : (out : List ℕ) (refusal : Refusal) → TranslatesBack scheme language domain text out → HasCause refusal → ⊥
  text_or_cause out refusal t (inl p) = p.1 t.offered
  text_or_cause out refusal t (inr (offered, inl p)) = read_or_bad scheme total texts text t.list refusal t.read p
  text_or_cause out refusal t (inr (offered, inr p)) =
      let e : ◌≡◌ {A = Result (List ℕ) BackFault} (Ok out) (Err p.fault) = one_back t.list p.list (Ok out) (Err p.fault) t.read p.read t.printed p.refused in
      cc e

  pub one_refusal : (a b : Refusal) → a ≢ refused.NoMemory → b ≢ refused.NoMemory → RefusesBack scheme language domain text a → RefusesBack scheme language domain text b → a ≡ b
  one_refusal a b some also p q = one_cause a b (cause a some p) (cause b also q)

  pub text_or_refusal : (out : List ℕ) (refusal : Refusal) → refusal ≢ refused.NoMemory → TranslatesBack scheme language domain text out → RefusesBack scheme language domain text refusal → ⊥
  text_or_refusal out refusal some t r = text_or_cause out refusal t (cause refusal some r)
