-- What a scheme promises of reading and of normal texts.
use Rattle.std.specs.Prelude.{◌≡◌, ◌≢◌, ℕ, List, []}
use Rattle.std.specs.declared.cmp.Ordering.{Ordering}
use Rattle.std.specs.declared.cmp.Ordering.TheVariants.{Equal}
use Rattle.vx_scheme.specs.declared.version_fault.VersionFault.{VersionFault}
use Rattle.vx_scheme.specs.declared.version_fault.VersionFault.TheVariants.{NotAVersion, Numeral, NoMemory}

-- a text whose version has a numeral past its limit
pub record SpellsPastLimit {V : Type 0} (Spells : List ℕ → V → Type 0) (IsWithin : V → Type 0) (text : List ℕ) : Type 0 where
  pub version : V
  pub spelled : Spells text version
  pub past : ¬ (IsWithin version)

-- when each fault comes; want of memory is free
abbrev pub Refuses : {V : Type 0} → (List ℕ → V → Type 0) → (V → Type 0) → List ℕ → VersionFault → Type 0
Refuses {V} Spells IsWithin text NotAVersion = (v : V) → ¬ (Spells text v)
Refuses Spells IsWithin text Numeral = SpellsPastLimit Spells IsWithin text
Refuses Spells IsWithin text NoMemory = Unit {0}

-- some text spells the version
pub record IsSpelled {V : Type 0} (Spells : List ℕ → V → Type 0) (v : V) : Type 0 where
  pub text : List ℕ
  pub spelled : Spells text v

-- the normal text of v is not empty, and it spells a version that is order-equal to v, has the same normal text,
-- and is within the limits where v is
pub record NormalSpells {V : Type 0} (order : V → V → Ordering) (IsWithin : V → Type 0) (Spells : List ℕ → V → Type 0) (normal : V → List ℕ) (v : V) : Type 0 where
  pub not_empty : normal v ≢ []
  pub version : V
  pub spelled : Spells (normal v) version
  pub order_equal : order version v ≡ Equal
  pub same_text : normal version ≡ normal v
  pub within : IsWithin v → IsWithin version

-- what texts spell: exactly the versions, no text two of them, and the normal text an equal one
pub record TextLaws {V : Type 0} (order : V → V → Ordering) (IsVersion IsWithin : V → Type 0) (Spells : List ℕ → V → Type 0) (normal : V → List ℕ) : Type 0 where
  pub version_spelled : (v : V) → IsVersion v → IsSpelled Spells v
  pub spelled_version : (text : List ℕ) (v : V) → Spells text v → IsVersion v
  pub spells_one : (text : List ℕ) (v w : V) → Spells text v → Spells text w → v ≡ w
  pub normal_spells : (v : V) → IsVersion v → NormalSpells order IsWithin Spells normal v
