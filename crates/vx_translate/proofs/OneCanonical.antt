-- A VERS text has one canonical text or one refusal, and never both.
use Rattle.std.proofs.Common.{◌≡◌, ◌≢◌, ℕ, List, refl, sym, ap, ◌∙◌}
use Rattle.std.specs.Cmp.{IsTotalOrder}
use Rattle.vx_scheme.specs.declared.scheme.Scheme.{Ghosts as Scheme}
use Rattle.vx_scheme.specs.Scheme.{TextLaws}
use Rattle.vx_vers.specs.Meaning.{kind}
use Rattle.vx_vers.specs.Texts.{vers_text}
use Rattle.vx_simplify.specs.Simplified.{simplified}
use Rattle.vx_translate.specs.Canonical.{PrintsSimplified, RefusesCanonical}
use Rattle.vx_translate.specs.VersTexts.{IsBadVers}
use Rattle.vx_translate.specs.declared.refusal.Refusal.{Refusal}
use Rattle.vx_translate.specs.declared.refusal.Refusal.TheVariants as refused
use Rattle.vx_translate.proofs.OneList.{one_read, one_bad, read_or_bad}

module _ {S V : Type 0} (scheme : Scheme S V) (total : IsTotalOrder scheme.order) (texts : TextLaws scheme.order scheme.IsVersion scheme.IsWithin scheme.Spells scheme.normal) (text : List ℕ) where
  pub one_text : (a b : List ℕ) → PrintsSimplified scheme text a → PrintsSimplified scheme text b → a ≡ b
  one_text a b p q =
      p.printed ∙ ap (λ list. vers_text scheme.name scheme.normal (simplified kind list)) (one_read scheme total texts text p.list q.list p.read q.read) ∙ sym q.printed

  bad : (refusal : Refusal) → refusal ≢ refused.NoMemory → RefusesCanonical scheme text refusal → IsBadVers scheme text refusal
  bad (refused.BadVers part k) some r = r
  bad refused.DomainNotOffered some r = absurd r
  bad (refused.Syntax at) some r = absurd r
  bad (refused.Numeral at) some r = absurd r
  bad (refused.NoEndpoint kind at) some r = absurd r
  bad refused.Empty some r = absurd r
  bad refused.BadVersion some r = absurd r
  bad (refused.NoNative kind k) some r = absurd r
  bad refused.NoMemory some r = absurd (some refl)

  pub one_refusal : (a b : Refusal) → a ≢ refused.NoMemory → b ≢ refused.NoMemory → RefusesCanonical scheme text a → RefusesCanonical scheme text b → a ≡ b
  one_refusal a b some also p q = one_bad scheme total texts text a b (bad a some p) (bad b also q)

  pub text_or_refusal : (out : List ℕ) (refusal : Refusal) → refusal ≢ refused.NoMemory → PrintsSimplified scheme text out → RefusesCanonical scheme text refusal → ⊥
  text_or_refusal out refusal some t r = read_or_bad scheme total texts text t.list refusal t.read (bad refusal some r)
