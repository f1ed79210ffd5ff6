-- A range text has one translation in a domain or one refusal, and never both.
use Rattle.std.proofs.Common.{◌≡◌, ◌≢◌, ◌⊎◌, ℕ, List, [], refl, sym, ap, subst, ◌∙◌, inl, inr}
use Rattle.std.specs.Cmp.{IsTotalOrder}
use Rattle.vx_scheme.specs.declared.domain.Domain.{Domain}
use Rattle.vx_scheme.specs.declared.range_fault.RangeFault.{RangeFault}
use Rattle.vx_scheme.specs.declared.range_fault.RangeFault.TheVariants as fault_of
use Rattle.vx_scheme.specs.declared.scheme.Scheme.{Ghosts as Scheme}
use Rattle.vx_scheme.specs.declared.native.Native.{Ghosts as Language}
use Rattle.vx_scheme.specs.declared.span.Span.{Span}
use Rattle.vx_scheme.specs.Domains.{InDomain}
use Rattle.vx_scheme.specs.Native.{RangeLaws}
use Rattle.vx_interval.specs.Joined.{IsJoined}
use Rattle.vx_interval.proofs.JoinedLaws.{joined_unique}
use Rattle.vx_simplify.specs.Listed.{list_of}
use Rattle.vx_vers.specs.Texts.{vers_text}
use Rattle.vx_translate.specs.Forward.{Translates, IsEmpty, RefusesForward}
use Rattle.vx_translate.specs.Refusals.{refusal_of}
use Rattle.vx_translate.specs.declared.refusal.Refusal.{Refusal}
use Rattle.vx_translate.specs.declared.refusal.Refusal.TheVariants as refused

module _ {S V : Type 0} (scheme : Scheme S V) (language : Language S V) (total : IsTotalOrder scheme.order)
    (laws : RangeLaws scheme.order scheme.IsVersion (InDomain scheme) language.Offers language.IsRange language.In language.Makes language.Refuses) (domain : Domain) (text : List ℕ) where
  one_spans : (bounds others : List (List (List (Span V)))) (a b : List (Span V)) → language.Makes domain text bounds → language.Makes domain text others → IsJoined scheme.order bounds a → IsJoined scheme.order others b → a ≡ b
  one_spans bounds others a b made again p q =
      joined_unique total bounds a b p (subst (λ made. IsJoined scheme.order made b) (laws.makes_one domain text others bounds again made) q)

  pub one_text : (a b : List ℕ) → Translates scheme language domain text a → Translates scheme language domain text b → a ≡ b
  one_text a b p q =
      p.printed ∙ ap (λ spans. vers_text scheme.name scheme.normal (list_of scheme.order spans)) (one_spans p.bounds q.bounds p.spans q.spans p.made q.made p.joined q.joined) ∙ sym q.printed

  -- ---- the causes of a refusal

  abbrev IsNotOffered : Refusal → Type 0
  IsNotOffered refusal = (refusal ≡ refused.DomainNotOffered) × ¬ (language.Offers domain)

  abbrev IsFaulty : Refusal → Type 0
  IsFaulty refusal = (fault : RangeFault) × (refusal ≡ refusal_of fault) × language.Refuses domain text fault

  abbrev HasNoSpan : Refusal → Type 0
  HasNoSpan refusal = (refusal ≡ refused.Empty) × IsEmpty scheme language domain text

  abbrev HasCause : Refusal → Type 0
  HasCause refusal = IsNotOffered refusal ⊎ (language.Offers domain × (IsFaulty refusal ⊎ HasNoSpan refusal))

  cause : (refusal : Refusal) → refusal ≢ refused.NoMemory → RefusesForward scheme language domain text refusal → HasCause refusal
  cause refused.DomainNotOffered some r = inl (refl, r)
  cause (refused.Syntax at) some r = inr (r.0, inl (fault_of.Syntax at, refl, r.1))
  cause (refused.Numeral at) some r = inr (r.0, inl (fault_of.Numeral at, refl, r.1))
  cause (refused.NoEndpoint kind at) some r = inr (r.0, inl (fault_of.NoEndpoint kind at, refl, r.1))
  cause refused.Empty some r = inr (r.0, inr (refl, r.1))
  cause (refused.BadVers part k) some r = absurd r
  cause refused.BadVersion some r = absurd r
  cause (refused.NoNative kind k) some r = absurd r
  cause refused.NoMemory some r = absurd (some refl)

  one_cause : (a b : Refusal) → HasCause a → HasCause b → a ≡ b
  one_cause a b (inl p) (inl q) = p.0 ∙ sym q.0
  one_cause a b (inl p) (inr q) = absurd (p.1 q.0)
  one_cause a b (inr p) (inl q) = absurd (q.1 p.0)
  one_cause a b (inr (offered, inl p)) (inr (also, inl q)) = p.1 ∙ ap refusal_of (laws.refuses_one domain text p.0 q.0 p.2 q.2) ∙ sym q.1
  one_cause a b (inr (offered, inl p)) (inr (also, inr q)) = absurd (laws.apart domain text q.1.bounds p.0 q.1.made p.2)
  one_cause a b (inr (offered, inr p)) (inr (also, inl q)) = absurd (laws.apart domain text p.1.bounds q.0 p.1.made q.2)
  one_cause a b (inr (offered, inr p)) (inr (also, inr q)) = p.0 ∙ sym q.0

  text_or_cause : (out : List ℕ) (refusal : Refusal) → Translates scheme language domain text out → HasCause refusal → ⊥
  text_or_cause out refusal t (inl p) = p.1 t.offered
  text_or_cause out refusal t (inr (offered, inl p)) = laws.apart domain text t.bounds p.0 t.made p.2
  text_or_cause out refusal t (inr (offered, inr p)) = t.some (one_spans t.bounds p.1.bounds t.spans [] t.made p.1.made t.joined p.1.joined)

  pub one_refusal : (a b : Refusal) → a ≢ refused.NoMemory → b ≢ refused.NoMemory → RefusesForward scheme language domain text a → RefusesForward scheme language domain text b → a ≡ b
  one_refusal a b some also p q = one_cause a b (cause a some p) (cause b also q)

  pub text_or_refusal : (out : List ℕ) (refusal : Refusal) → refusal ≢ refused.NoMemory → Translates scheme language domain text out → RefusesForward scheme language domain text refusal → ⊥
  text_or_refusal out refusal some t r = text_or_cause out refusal t (cause refusal some r)
