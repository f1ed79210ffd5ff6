-- The way forward, from a native range text to a VERS text, over any range language.
use Rattle.std.specs.Prelude.{◌≡◌, ◌≢◌, ◌↔◌, ℕ, true, List, []}
use Rattle.vx_scheme.specs.declared.domain.Domain.{Domain}
use Rattle.vx_scheme.specs.declared.range_fault.RangeFault.TheVariants as fault_of
use Rattle.vx_scheme.specs.declared.scheme.Scheme.{Ghosts as Scheme}
use Rattle.vx_scheme.specs.declared.native.Native.{Ghosts as Language}
use Rattle.vx_scheme.specs.declared.span.Span.{Span}
use Rattle.vx_scheme.specs.Domains.{InDomain}
use Rattle.vx_interval.specs.Joined.{IsJoined}
use Rattle.vx_simplify.specs.Listed.{list_of}
use Rattle.vx_vers.specs.declared.constraints.Constraint.{Constraint}
use Rattle.vx_vers.specs.Meaning.{meaning}
use Rattle.vx_vers.specs.Texts.{vers_text}
use Rattle.vx_translate.specs.VersTexts.{SpellsVers}
use Rattle.vx_translate.specs.declared.refusal.Refusal.{Refusal}
use Rattle.vx_translate.specs.declared.refusal.Refusal.TheVariants as refusal_of

-- The domain is offered, and the text makes bounds; where they are joined there is one span at least; and the answer is
-- the printed text of their list.
pub record Translates {S V : Type 0} (scheme : Scheme S V) (language : Language S V) (domain : Domain) (text out : List ℕ) : Type 0 where
  pub offered : language.Offers domain
  pub bounds : List (List (List (Span V)))
  pub spans : List (Span V)
  pub made : language.Makes domain text bounds
  pub joined : IsJoined scheme.order bounds spans
  pub some : spans ≢ []
  pub printed : out ≡ vers_text scheme.name scheme.normal (list_of scheme.order spans)

-- The answer is read as a list, which holds exactly the versions of the domain that are in the text.
pub record HoldsSame {S V : Type 0} (scheme : Scheme S V) (language : Language S V) (domain : Domain) (text out : List ℕ) : Type 0 where
  pub list : List (Constraint V)
  pub read : SpellsVers scheme out list
  pub same : (v : V) → scheme.IsVersion v → InDomain scheme domain v → language.In text v ↔ (meaning scheme.order v list ≡ true)

-- no version of the domain is in the text
abbrev pub HoldsNothing : {S V : Type 0} → Scheme S V → Language S V → Domain → List ℕ → Type 0
HoldsNothing {V = V} scheme language domain text = (v : V) → scheme.IsVersion v → InDomain scheme domain v → ¬ (language.In text v)

-- The text makes bounds, and where they are joined there is no span: no piece of the line is held.
pub record IsEmpty {S V : Type 0} (scheme : Scheme S V) (language : Language S V) (domain : Domain) (text : List ℕ) : Type 0 where
  pub bounds : List (List (List (Span V)))
  pub made : language.Makes domain text bounds
  pub joined : IsJoined scheme.order bounds []

-- when each refusal comes; want of memory is free
abbrev pub RefusesForward : {S V : Type 0} → Scheme S V → Language S V → Domain → List ℕ → Refusal → Type 0
RefusesForward scheme language domain text refusal_of.DomainNotOffered = ¬ (language.Offers domain)
RefusesForward scheme language domain text (refusal_of.Syntax at) = language.Offers domain × language.Refuses domain text (fault_of.Syntax at)
RefusesForward scheme language domain text (refusal_of.Numeral at) = language.Offers domain × language.Refuses domain text (fault_of.Numeral at)
RefusesForward scheme language domain text (refusal_of.NoEndpoint kind at) = language.Offers domain × language.Refuses domain text (fault_of.NoEndpoint kind at)
RefusesForward scheme language domain text refusal_of.Empty = language.Offers domain × IsEmpty scheme language domain text
RefusesForward scheme language domain text refusal_of.NoMemory = Unit {0}
RefusesForward scheme language domain text _ = ⊥
