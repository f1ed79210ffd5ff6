-- VERS texts that are read, and those that are refused, over any scheme; and what holds of the scheme that the head of a
-- text names.
use Rattle.std.specs.Prelude.{◌≡◌, ◌≢◌, ◌⊎◌, ℕ, List}
use Rattle.vx_scheme.specs.declared.name.SchemeName.{SchemeName}
use Rattle.vx_scheme.specs.declared.scheme.Scheme.{Ghosts as Scheme}
use Rattle.vx_vers.specs.declared.constraints.Constraint.{Constraint}
use Rattle.vx_vers.specs.declared.fault.VersFault.{VersFault}
use Rattle.vx_vers.specs.Grammar.{SpellsList, EachWithin}
use Rattle.vx_vers.specs.Heads.{HeadIs, NoHead}
use Rattle.vx_vers.specs.Refusals.{Refuses}
use Rattle.vx_translate.specs.Refusals.{refusal_of_vers}
use Rattle.vx_translate.specs.declared.refusal.Refusal.{Refusal}
use Rattle.vx_translate.specs.declared.refusal.Refusal.TheVariants as refusal_of
use Rattle.vx_translate.specs.declared.refusal.VersPart.TheVariants.{Head}

-- The text spells the list, each version within the limits of the scheme.
pub record SpellsVers {S V : Type 0} (scheme : Scheme S V) (text : List ℕ) (list : List (Constraint V)) : Type 0 where
  pub spelled : SpellsList scheme.name scheme.order scheme.Spells text list
  pub within : EachWithin scheme.IsWithin list

-- The text spells no list within the limits, and its first fault is called by this refusal.
pub record IsBadVers {S V : Type 0} (scheme : Scheme S V) (text : List ℕ) (refusal : Refusal) : Type 0 where
  pub fault : VersFault
  pub first : Refuses scheme.name scheme.order scheme.Spells scheme.IsWithin text fault
  pub called : refusal ≡ refusal_of_vers fault

-- the head of the text names the scheme for which the fact holds
abbrev pub OfHead : (SchemeName → Type 0) → List ℕ → Type 0
OfHead Fact text = (name : SchemeName) × HeadIs text name × Fact name

-- When each refusal comes: that of the head where it names no scheme, and else by the scheme that it names. Want of
-- memory is free.
abbrev pub ComesByHead : {F : Type 0} → F → F → (SchemeName → F → Type 0) → List ℕ → F → Type 0
ComesByHead no_memory headless Refused text refusal =
    (refusal ≢ no_memory) → ((NoHead text × (refusal ≡ headless)) ⊎ OfHead (λ name. Refused name refusal) text)

abbrev pub RefusedByHead : (SchemeName → Refusal → Type 0) → List ℕ → Refusal → Type 0
RefusedByHead = ComesByHead refusal_of.NoMemory (refusal_of.BadVers Head 0)
