-- Whether a VERS text holds the version of a package URL, over any scheme.
use Rattle.std.specs.Prelude.{◌≡◌, ◌≢◌, ℕ, Bool, List, None}
use Rattle.vx_scheme.specs.declared.name.SchemeName.{SchemeName}
use Rattle.vx_scheme.specs.declared.scheme.Scheme.{Ghosts as Scheme}
use Rattle.vx_scheme.specs.Names.{text_of}
use Rattle.vx_vers.specs.declared.constraints.Constraint.{Constraint}
use Rattle.purl_core.specs.Reading.{IsRefused as IsPurlRefused}
use Rattle.purl_core.specs.Spelling.{SpellsPurl}
use Rattle.purl_core.specs.Value.{Package}
use Rattle.purl_core.specs.declared.fault.PurlFault.TheVariants as purl_fault_of
use Rattle.purl_types.specs.Candidate.{IsCandidate}
use Rattle.vx_translate.specs.Having.{TellsMembership, IsBadVersion}
use Rattle.vx_translate.specs.VersTexts.{SpellsVers, IsBadVers}
use Rattle.vx_translate.specs.declared.check_refusal.CheckRefusal.{CheckRefusal}
use Rattle.vx_translate.specs.declared.check_refusal.CheckRefusal.TheVariants as check_refusal_of
use Rattle.vx_translate.specs.declared.refusal.Refusal.TheVariants as refusal_of

-- The text spells a package URL whose type is the scheme's name, and whose candidate this is.
pub record HasCandidate (name : SchemeName) (text candidate : List ℕ) : Type 0 where
  pub purl : Package
  pub spelled : SpellsPurl text purl
  pub typed : purl.kind ≡ text_of name
  pub is : IsCandidate purl candidate

-- The text spells a package URL without a version.
pub record LacksVersion (text : List ℕ) : Type 0 where
  pub purl : Package
  pub spelled : SpellsPurl text purl
  pub none : purl.version ≡ None

-- The text spells a package URL with a version, whose type is not the scheme's name.
pub record HasOtherType (name : SchemeName) (text : List ℕ) : Type 0 where
  pub purl : Package
  pub spelled : SpellsPurl text purl
  pub some : purl.version ≢ None
  pub other : purl.kind ≢ text_of name

-- when a package URL's text gives no candidate for the scheme; want of memory is free
abbrev pub LacksCandidate : SchemeName → List ℕ → CheckRefusal → Type 0
LacksCandidate name purl (check_refusal_of.BadPurl fault) = (fault ≢ purl_fault_of.NoMemory) × IsPurlRefused purl fault
LacksCandidate name purl check_refusal_of.NoVersion = LacksVersion purl
LacksCandidate name purl check_refusal_of.NoScheme = HasOtherType name purl
LacksCandidate name purl check_refusal_of.NoMemory = Unit {0}
LacksCandidate name purl (check_refusal_of.Vers refusal) = ⊥

-- The package URL gives a candidate for the scheme, and the answer is whether the VERS text holds it.
pub record TellsCheck {S V : Type 0} (scheme : Scheme S V) (purl vers : List ℕ) (answer : Bool) : Type 0 where
  pub candidate : List ℕ
  pub given : HasCandidate scheme.name purl candidate
  pub told : TellsMembership scheme vers candidate answer

-- The VERS text is read, and the package URL's text gives no candidate.
pub record IsBadPurl {S V : Type 0} (scheme : Scheme S V) (purl vers : List ℕ) (refusal : CheckRefusal) : Type 0 where
  pub list : List (Constraint V)
  pub read : SpellsVers scheme vers list
  pub lacks : LacksCandidate scheme.name purl refusal

-- The VERS text is read, and the scheme refuses the candidate as a version.
pub record IsBadCandidate {S V : Type 0} (scheme : Scheme S V) (purl vers : List ℕ) : Type 0 where
  pub candidate : List ℕ
  pub given : HasCandidate scheme.name purl candidate
  pub refused : IsBadVersion scheme vers candidate

-- when each refusal comes: that of the VERS text, then that of the package URL, then that of the version; want of memory
-- is free
abbrev pub RefusesCheck : {S V : Type 0} → Scheme S V → List ℕ → List ℕ → CheckRefusal → Type 0
RefusesCheck scheme purl vers (check_refusal_of.Vers (refusal_of.BadVers part k)) = IsBadVers scheme vers (refusal_of.BadVers part k)
RefusesCheck scheme purl vers (check_refusal_of.BadPurl fault) = IsBadPurl scheme purl vers (check_refusal_of.BadPurl fault)
RefusesCheck scheme purl vers check_refusal_of.NoVersion = IsBadPurl scheme purl vers check_refusal_of.NoVersion
RefusesCheck scheme purl vers check_refusal_of.NoScheme = IsBadPurl scheme purl vers check_refusal_of.NoScheme
RefusesCheck scheme purl vers (check_refusal_of.Vers refusal_of.BadVersion) = IsBadCandidate scheme purl vers
RefusesCheck scheme purl vers check_refusal_of.NoMemory = Unit {0}
RefusesCheck scheme purl vers _ = ⊥
