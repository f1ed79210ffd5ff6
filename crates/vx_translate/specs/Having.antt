-- Whether a VERS text holds a version, over any scheme.
use Rattle.std.specs.Prelude.{◌≡◌, ◌⊎◌, ℕ, Bool, List}
use Rattle.vx_scheme.specs.declared.scheme.Scheme.{Ghosts as Scheme}
use Rattle.vx_scheme.specs.declared.version_fault.VersionFault.TheVariants.{NotAVersion, Numeral}
use Rattle.vx_scheme.specs.Scheme.{Refuses as RefusesVersion}
use Rattle.vx_vers.specs.declared.constraints.Constraint.{Constraint}
use Rattle.vx_vers.specs.Meaning.{meaning}
use Rattle.vx_translate.specs.VersTexts.{SpellsVers, IsBadVers}
use Rattle.vx_translate.specs.declared.refusal.Refusal.{Refusal}
use Rattle.vx_translate.specs.declared.refusal.Refusal.TheVariants as refusal_of

-- Both texts are read within the limits, and the answer is what the list, as it is read, means at the version.
pub record TellsMembership {S V : Type 0} (scheme : Scheme S V) (text version : List ℕ) (answer : Bool) : Type 0 where
  pub list : List (Constraint V)
  pub read : SpellsVers scheme text list
  pub v : V
  pub spelled : scheme.Spells version v
  pub within : scheme.IsWithin v
  pub means : answer ≡ meaning scheme.order v list

-- The VERS text is read, and the version's text spells no version, or one with a numeral past its limit.
pub record IsBadVersion {S V : Type 0} (scheme : Scheme S V) (text version : List ℕ) : Type 0 where
  pub list : List (Constraint V)
  pub read : SpellsVers scheme text list
  pub refused : RefusesVersion scheme.Spells scheme.IsWithin version NotAVersion ⊎ RefusesVersion scheme.Spells scheme.IsWithin version Numeral

-- when each refusal comes; want of memory is free
abbrev pub RefusesMembership : {S V : Type 0} → Scheme S V → List ℕ → List ℕ → Refusal → Type 0
RefusesMembership scheme text version (refusal_of.BadVers part k) = IsBadVers scheme text (refusal_of.BadVers part k)
RefusesMembership scheme text version refusal_of.BadVersion = IsBadVersion scheme text version
RefusesMembership scheme text version refusal_of.NoMemory = Unit {0}
RefusesMembership scheme text version _ = ⊥
