-- The way back, from a VERS text to a native range text, over any range language.
use Rattle.std.specs.Prelude.{◌≡◌, ◌↔◌, ℕ, true, List, Ok, Err}
use Rattle.vx_scheme.specs.declared.back_fault.BackFault.{BackFault}
use Rattle.vx_scheme.specs.declared.domain.Domain.{Domain}
use Rattle.vx_scheme.specs.declared.scheme.Scheme.{Ghosts as Scheme}
use Rattle.vx_scheme.specs.declared.native.Native.{Ghosts as Language}
use Rattle.vx_scheme.specs.Domains.{InDomain}
use Rattle.vx_vers.specs.declared.constraints.Constraint.{Constraint}
use Rattle.vx_vers.specs.Meaning.{kind, meaning}
use Rattle.vx_simplify.specs.Edges.{spans_of_list}
use Rattle.vx_simplify.specs.Simplified.{simplified}
use Rattle.vx_translate.specs.Refusals.{refusal_of_back}
use Rattle.vx_translate.specs.VersTexts.{SpellsVers, IsBadVers}
use Rattle.vx_translate.specs.declared.refusal.Refusal.{Refusal}
use Rattle.vx_translate.specs.declared.refusal.Refusal.TheVariants as refusal_of

-- The domain is offered, the text is read, and the answer is the range text of the spans of its simplified list.
pub record TranslatesBack {S V : Type 0} (scheme : Scheme S V) (language : Language S V) (domain : Domain) (text out : List ℕ) : Type 0 where
  pub offered : language.Offers domain
  pub list : List (Constraint V)
  pub read : SpellsVers scheme text list
  pub printed : language.back domain (spans_of_list (simplified kind list)) ≡ Ok out

-- The answer has a reading, and the versions of the domain that are in it are those that the list, as it is read,
-- holds.
pub record KeepsMembers {S V : Type 0} (scheme : Scheme S V) (language : Language S V) (domain : Domain) (text out : List ℕ) : Type 0 where
  pub list : List (Constraint V)
  pub read : SpellsVers scheme text list
  pub range : language.IsRange out
  pub same : (v : V) → scheme.IsVersion v → InDomain scheme domain v → language.In out v ↔ (meaning scheme.order v list ≡ true)

-- The text is read, the spans of its simplified list have no range text, and the fault is called by this refusal.
pub record HasNoText {S V : Type 0} (scheme : Scheme S V) (language : Language S V) (domain : Domain) (text : List ℕ) (refusal : Refusal) : Type 0 where
  pub list : List (Constraint V)
  pub read : SpellsVers scheme text list
  pub fault : BackFault
  pub refused : language.back domain (spans_of_list (simplified kind list)) ≡ Err fault
  pub called : refusal ≡ refusal_of_back fault

-- when each refusal comes; want of memory is free
abbrev pub RefusesBack : {S V : Type 0} → Scheme S V → Language S V → Domain → List ℕ → Refusal → Type 0
RefusesBack scheme language domain text refusal_of.DomainNotOffered = ¬ (language.Offers domain)
RefusesBack scheme language domain text (refusal_of.BadVers part k) = language.Offers domain × IsBadVers scheme text (refusal_of.BadVers part k)
RefusesBack scheme language domain text (refusal_of.NoNative kind k) = language.Offers domain × HasNoText scheme language domain text (refusal_of.NoNative kind k)
RefusesBack scheme language domain text refusal_of.NoMemory = Unit {0}
RefusesBack scheme language domain text _ = ⊥
