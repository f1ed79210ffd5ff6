-- A package URL and a VERS text have one answer or one refusal, and never both.
use Rattle.std.proofs.Common.{◌≡◌, ◌≢◌, ◌⊎◌, ℕ, Bool, List, refl, sym, ap, subst, ◌∙◌, inl, inr}
use Rattle.std.specs.Cmp.{IsTotalOrder}
use Rattle.vx_scheme.specs.declared.name.SchemeName.{SchemeName}
use Rattle.vx_scheme.specs.declared.scheme.Scheme.{Ghosts as Scheme}
use Rattle.vx_scheme.specs.Scheme.{TextLaws}
use Rattle.purl_core.specs.Value.{Package}
use Rattle.purl_core.specs.declared.fault.PurlFault.{PurlFault}
use Rattle.purl_core.specs.declared.fault.PurlFault.TheVariants as fault_of
use Rattle.purl_core.specs.Reading.{IsRefused}
use Rattle.purl_core.specs.Spelling.{SpellsPurl}
use Rattle.purl_core.proofs.OneRefusal.{one_refusal as one_fault}
use Rattle.purl_core.proofs.OneValue.{one_value}
use Rattle.purl_core.proofs.Unspelled.{unspelled}
use Rattle.purl_types.proofs.Values.{one_candidate_of, none_of}
use Rattle.vx_translate.specs.Checking.{HasCandidate, LacksCandidate, TellsCheck, IsBadPurl, IsBadCandidate, RefusesCheck}
use Rattle.vx_translate.specs.Having.{TellsMembership, IsBadVersion}
use Rattle.vx_translate.specs.VersTexts.{IsBadVers}
use Rattle.vx_translate.specs.declared.check_refusal.CheckRefusal.{CheckRefusal}
use Rattle.vx_translate.specs.declared.check_refusal.CheckRefusal.TheVariants.{Vers, BadPurl, NoVersion, NoScheme, NoMemory}
use Rattle.vx_translate.specs.declared.refusal.Refusal.{Refusal}
use Rattle.vx_translate.specs.declared.refusal.Refusal.TheVariants as refused
use Rattle.vx_translate.proofs.OneHaving.{one_decision as one_membership, decision_or_refusal as membership_or_refusal}
use Rattle.vx_translate.proofs.OneList.{one_bad, read_or_bad}

-- ---- candidates

module _ (name : SchemeName) (purl : List ℕ) where
  one_given : (a b : List ℕ) → HasCandidate name purl a → HasCandidate name purl b → a ≡ b
  one_given a b p q = one_candidate_of purl a b p.purl q.purl p.spelled q.spelled p.is q.is

  not_spelled : (value : Package) (fault : PurlFault) → fault ≢ fault_of.NoMemory → IsRefused purl fault → SpellsPurl purl value → ⊥
  not_spelled value fault some r spelled = some (unspelled purl fault value r spelled)

  given_or_lacking : (refusal : CheckRefusal) (candidate : List ℕ) → refusal ≢ NoMemory → HasCandidate name purl candidate → LacksCandidate name purl refusal → ⊥
  given_or_lacking (Vers r) candidate some h l = l
  given_or_lacking (BadPurl fault) candidate some h l = not_spelled h.purl fault l.0 l.1 h.spelled
  given_or_lacking NoVersion candidate some h l = none_of purl candidate h.purl l.purl h.spelled l.spelled l.none h.is
  given_or_lacking NoScheme candidate some h l = l.other (ap (λ (p : Package). p.kind) (one_value purl l.purl h.purl l.spelled h.spelled) ∙ h.typed)
  given_or_lacking NoMemory candidate some h l = some refl

  one_lack : (a b : CheckRefusal) → a ≢ NoMemory → b ≢ NoMemory → LacksCandidate name purl a → LacksCandidate name purl b → a ≡ b
  one_lack (Vers r) b some also p q = absurd p
  one_lack NoMemory b some also p q = absurd (some refl)
  one_lack a (Vers r) some also p q = absurd q
  one_lack a NoMemory some also p q = absurd (also refl)
  one_lack (BadPurl x) (BadPurl y) some also p q = ap BadPurl (one_fault purl x y p.1 q.1 p.0 q.0)
  one_lack (BadPurl x) NoVersion some also p q = absurd (not_spelled q.purl x p.0 p.1 q.spelled)
  one_lack (BadPurl x) NoScheme some also p q = absurd (not_spelled q.purl x p.0 p.1 q.spelled)
  one_lack NoVersion (BadPurl y) some also p q = absurd (not_spelled p.purl y q.0 q.1 p.spelled)
  one_lack NoVersion NoVersion some also p q = refl
  one_lack NoVersion NoScheme some also p q = absurd (q.some (ap (λ (r : Package). r.version) (one_value purl q.purl p.purl q.spelled p.spelled) ∙ p.none))
  one_lack NoScheme (BadPurl y) some also p q = absurd (not_spelled p.purl y q.0 q.1 p.spelled)
  one_lack NoScheme NoVersion some also p q = absurd (p.some (ap (λ (r : Package). r.version) (one_value purl p.purl q.purl p.spelled q.spelled) ∙ q.none))
  one_lack NoScheme NoScheme some also p q = refl

module _ {S V : Type 0} (scheme : Scheme S V) (total : IsTotalOrder scheme.order) (texts : TextLaws scheme.order scheme.IsVersion scheme.IsWithin scheme.Spells scheme.normal) (purl vers : List ℕ) where
  pub one_decision : (a b : Bool) → TellsCheck scheme purl vers a → TellsCheck scheme purl vers b → a ≡ b
  one_decision a b p q =
      one_membership scheme total texts vers p.candidate a b p.told
      (subst (λ candidate. TellsMembership scheme vers candidate b) (one_given scheme.name purl q.candidate p.candidate q.given p.given) q.told)

  -- ---- the causes of a refusal

  abbrev IsBadText : CheckRefusal → Type 0
  IsBadText r = (refusal : Refusal) × (r ≡ Vers refusal) × IsBadVers scheme vers refusal

  abbrev HasCause : CheckRefusal → Type 0
  HasCause r = IsBadText r ⊎ (IsBadPurl scheme purl vers r ⊎ ((r ≡ Vers refused.BadVersion) × IsBadCandidate scheme purl vers))

  cause : (r : CheckRefusal) → r ≢ NoMemory → RefusesCheck scheme purl vers r → HasCause r
  cause (Vers (refused.BadVers part k)) some h = inl (refused.BadVers part k, refl, h)
  cause (Vers refused.BadVersion) some h = inr (inr (refl, h))
  cause (BadPurl fault) some h = inr (inl h)
  cause NoVersion some h = inr (inl h)
  cause NoScheme some h = inr (inl h)
  cause NoMemory some h = absurd (some refl)
  cause (Vers other) some h = absurd h

  bad_or_read : {C : Type 0} (r : CheckRefusal) → IsBadText r → (candidate : List ℕ) → IsBadVersion scheme vers candidate → C
  bad_or_read r p candidate b = absurd (read_or_bad scheme total texts vers b.list p.0 b.read p.2)

  bad_or_lacking : {C : Type 0} (r other : CheckRefusal) → IsBadText r → IsBadPurl scheme purl vers other → C
  bad_or_lacking r other p q = absurd (read_or_bad scheme total texts vers q.list p.0 q.read p.2)

  lacking_or_bad : {C : Type 0} (r : CheckRefusal) → r ≢ NoMemory → IsBadPurl scheme purl vers r → IsBadCandidate scheme purl vers → C
  lacking_or_bad r some p q = absurd (given_or_lacking scheme.name purl r q.candidate some q.given p.lacks)

  one_cause : (a b : CheckRefusal) → a ≢ NoMemory → b ≢ NoMemory → HasCause a → HasCause b → a ≡ b
  one_cause a b some also (inl p) (inl q) = p.1 ∙ ap Vers (one_bad scheme total texts vers p.0 q.0 p.2 q.2) ∙ sym q.1
  one_cause a b some also (inl p) (inr (inl q)) = bad_or_lacking a b p q
  one_cause a b some also (inl p) (inr (inr q)) = bad_or_read a p q.1.candidate q.1.refused
  one_cause a b some also (inr (inl p)) (inl q) = bad_or_lacking b a q p
  one_cause a b some also (inr (inl p)) (inr (inl q)) = one_lack scheme.name purl a b some also p.lacks q.lacks
  one_cause a b some also (inr (inl p)) (inr (inr q)) = lacking_or_bad a some p q.1
  one_cause a b some also (inr (inr p)) (inl q) = bad_or_read b q p.1.candidate p.1.refused
  one_cause a b some also (inr (inr p)) (inr (inl q)) = lacking_or_bad b also q p.1
  one_cause a b some also (inr (inr p)) (inr (inr q)) = p.0 ∙ sym q.0

  decision_or_cause : (decision : Bool) (r : CheckRefusal) → r ≢ NoMemory → TellsCheck scheme purl vers decision → HasCause r → ⊥
  decision_or_cause decision r some t (inl p) = read_or_bad scheme total texts vers t.told.list p.0 t.told.read p.2
  decision_or_cause decision r some t (inr (inl p)) = given_or_lacking scheme.name purl r t.candidate some t.given p.lacks
  decision_or_cause decision r some t (inr (inr p)) =
      membership_or_refusal scheme total texts vers t.candidate decision refused.BadVersion (λ e. cc e) t.told
      (subst (IsBadVersion scheme vers) (one_given scheme.name purl p.1.candidate t.candidate p.1.given t.given) p.1.refused)

  pub one_refusal : (a b : CheckRefusal) → a ≢ NoMemory → b ≢ NoMemory → RefusesCheck scheme purl vers a → RefusesCheck scheme purl vers b → a ≡ b
  one_refusal a b some also p q = one_cause a b some also (cause a some p) (cause b also q)

  pub decision_or_refusal : (decision : Bool) (refusal : CheckRefusal) → refusal ≢ NoMemory → TellsCheck scheme purl vers decision → RefusesCheck scheme purl vers refusal → ⊥
  decision_or_refusal decision refusal some t r = decision_or_cause decision refusal some t (cause refusal some r)
