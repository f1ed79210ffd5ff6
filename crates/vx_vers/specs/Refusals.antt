-- VERS, "Parsing and validating version range specifiers": why a text is refused, and by which of its constraints. They
-- are numbered from 1, in the order of the text, and empty parts have no number.
use Rattle.std.specs.Prelude.{◌≡◌, ◌≢◌, ◌≤◌, ◌+◌, ◌⊎◌, ℕ, List, [], ◌∷◌, ◌++◌, length, IsUtf8, Option, Some, None}
use Rattle.std.specs.List.{AllByRecursion}
use Rattle.std.specs.declared.cmp.Ordering.{Ordering}
use Rattle.std.specs.declared.cmp.Ordering.TheVariants.{Equal}
use Rattle.vx_spec.specs.Firsts.{IsFirst}
use Rattle.vx_scheme.specs.declared.name.SchemeName.{SchemeName}
use Rattle.vx_scheme.specs.declared.version_fault.VersionFault.{VersionFault}
use Rattle.vx_scheme.specs.declared.version_fault.VersionFault.TheVariants as version_fault_of
use Rattle.vx_scheme.specs.Scheme.{Refuses as RefusesVersion}
use Rattle.vx_text.specs.Escapes.{IsWhole, unescaped}
use Rattle.vx_vers.specs.declared.constraints.Comparator.{Comparator}
use Rattle.vx_vers.specs.declared.constraints.Constraint.{Constraint}
use Rattle.vx_vers.specs.declared.fault.VersFault.{VersFault}
use Rattle.vx_vers.specs.declared.fault.VersFault.TheVariants as fault_of
use Rattle.vx_vers.specs.Heads.{HasHead, solid}
use Rattle.vx_vers.specs.Grammar.{IsWritten, IsSigned, HasForm, SpellsConstraint, SpellEach, NoStar, HasStar, EachWithin}

-- the texts with their numbers, from this number on
abbrev pub numbered_texts : ℕ → List (List ℕ) → List (ℕ × List ℕ)
numbered_texts k [] = []
numbered_texts k (text ∷ texts) = (k, text) ∷ numbered_texts (k + 1) texts

-- behind the comparator nothing stands, or a '%' begins no escape, or what the escapes stand for is no UTF-8
abbrev pub IsFormless : List ℕ → Type 0
IsFormless raw = (raw ≡ []) ⊎ (¬ (IsWhole raw) ⊎ ¬ (IsUtf8 (unescaped raw)))

-- the text is a comparator, and what is formless
pub record LacksForm (text : List ℕ) : Type 0 where
  pub comparator : Comparator
  pub raw : List ℕ
  pub signed : IsSigned text comparator raw
  pub lacks : IsFormless raw

-- the text is a comparator, and behind it a text with the form of a version's, which the scheme refuses
pub record HasVersionFault {V : Type 0} (Spells : List ℕ → V → Type 0) (IsWithin : V → Type 0) (text : List ℕ) (fault : VersionFault) : Type 0 where
  pub comparator : Comparator
  pub raw : List ℕ
  pub signed : IsSigned text comparator raw
  pub form : HasForm raw
  pub refused : RefusesVersion Spells IsWithin (unescaped raw) fault

-- the text spells a constraint whose version is within the limits
pub record SpellsWithin {V : Type 0} (Spells : List ℕ → V → Type 0) (IsWithin : V → Type 0) (text : List ℕ) : Type 0 where
  pub constraint : Constraint V
  pub spelled : SpellsConstraint Spells text constraint
  pub within : IsWithin constraint.version

-- why the text with this number is refused: by its form, by its version, or not at all
abbrev pub RefusesPart : {V : Type 0} → (List ℕ → V → Type 0) → (V → Type 0) → ℕ × List ℕ → Option VersFault → Type 0
RefusesPart Spells IsWithin part None = SpellsWithin Spells IsWithin part.1
RefusesPart Spells IsWithin part (Some fault_of.Head) = ⊥
RefusesPart Spells IsWithin part (Some (fault_of.Constraint k)) = (k ≡ part.0) × LacksForm part.1
RefusesPart Spells IsWithin part (Some (fault_of.Version k)) = (k ≡ part.0) × HasVersionFault Spells IsWithin part.1 version_fault_of.NotAVersion
RefusesPart Spells IsWithin part (Some (fault_of.Duplicate k)) = ⊥
RefusesPart Spells IsWithin part (Some fault_of.StarNotAlone) = ⊥
RefusesPart Spells IsWithin part (Some (fault_of.Numeral k)) = (k ≡ part.0) × HasVersionFault Spells IsWithin part.1 version_fault_of.Numeral
RefusesPart Spells IsWithin part (Some fault_of.NoMemory) = ⊥

-- none of the written constraints is `*`, and this is the fault of the first that has one
pub record HasFirstFault {V : Type 0} (Spells : List ℕ → V → Type 0) (IsWithin : V → Type 0) (written : List (List ℕ)) (fault : VersFault) : Type 0 where
  pub stars : NoStar written
  pub first : IsFirst (RefusesPart Spells IsWithin) (numbered_texts 1 written) (Some fault)

-- the version is order-equal to that of a constraint in the list
abbrev pub HasEqual : {V : Type 0} → (V → V → Ordering) → V → List (Constraint V) → Type 0
HasEqual order v [] = ⊥
HasEqual order v (c ∷ list) = (order c.version v ≡ Equal) ⊎ HasEqual order v list

-- no version of the list is order-equal to that of a later constraint
abbrev pub IsApart : {V : Type 0} → (V → V → Ordering) → List (Constraint V) → Type 0
IsApart order [] = Unit {0}
IsApart order (c ∷ list) = AllByRecursion (λ later. order c.version later.version ≢ Equal) list × IsApart order list

-- The constraint with this number is the first whose version is order-equal to that of an earlier one.
pub record IsFirstDuplicate {V : Type 0} (order : V → V → Ordering) (list : List (Constraint V)) (k : ℕ) : Type 0 where
  pub before : List (Constraint V)
  pub constraint : Constraint V
  pub behind : List (Constraint V)
  pub split : list ≡ before ++ constraint ∷ behind
  pub number : k ≡ length before + 1
  pub apart : IsApart order before
  pub twice : HasEqual order constraint.version before

-- The written constraints, none of them `*`, spell constraints within the limits, and this is the number of the first
-- duplicate.
pub record HasDuplicate {V : Type 0} (order : V → V → Ordering) (Spells : List ℕ → V → Type 0) (IsWithin : V → Type 0) (written : List (List ℕ)) (k : ℕ) : Type 0 where
  pub stars : NoStar written
  pub constraints : List (Constraint V)
  pub spelled : SpellEach Spells written constraints
  pub within : EachWithin IsWithin constraints
  pub first : IsFirstDuplicate order constraints k

-- why the written constraints are refused: one of several is `*`; there is none; the first fault of one; a duplicate
abbrev pub RefusesWritten : {V : Type 0} → (V → V → Ordering) → (List ℕ → V → Type 0) → (V → Type 0) → List (List ℕ) → VersFault → Type 0
RefusesWritten order Spells IsWithin written fault_of.Head = ⊥
RefusesWritten order Spells IsWithin written (fault_of.Constraint k) = ((written ≡ []) × (k ≡ 1)) ⊎ HasFirstFault Spells IsWithin written (fault_of.Constraint k)
RefusesWritten order Spells IsWithin written (fault_of.Version k) = HasFirstFault Spells IsWithin written (fault_of.Version k)
RefusesWritten order Spells IsWithin written (fault_of.Duplicate k) = HasDuplicate order Spells IsWithin written k
RefusesWritten order Spells IsWithin written fault_of.StarNotAlone = (2 ≤ length written) × HasStar written
RefusesWritten order Spells IsWithin written (fault_of.Numeral k) = HasFirstFault Spells IsWithin written (fault_of.Numeral k)
RefusesWritten order Spells IsWithin written fault_of.NoMemory = ⊥

-- the text has the head of the scheme, and the fault is that of its written constraints
pub record IsWrittenWrong {V : Type 0} (name : SchemeName) (order : V → V → Ordering) (Spells : List ℕ → V → Type 0) (IsWithin : V → Type 0) (text : List ℕ) (fault : VersFault) : Type 0 where
  pub written : List (List ℕ)
  pub is : IsWritten name text written
  pub refused : RefusesWritten order Spells IsWithin written fault

-- A text without blanks is refused: it has no head of the scheme, or its written constraints are refused.
abbrev pub RefusesSolid : {V : Type 0} → SchemeName → (V → V → Ordering) → (List ℕ → V → Type 0) → (V → Type 0) → List ℕ → VersFault → Type 0
RefusesSolid name order Spells IsWithin text fault = ((fault ≡ fault_of.Head) × ((behind : List ℕ) → ¬ (HasHead text name behind))) ⊎ IsWrittenWrong name order Spells IsWithin text fault

-- The text is refused, with its blanks left out. Want of memory is not told here.
abbrev pub Refuses : {V : Type 0} → SchemeName → (V → V → Ordering) → (List ℕ → V → Type 0) → (V → Type 0) → List ℕ → VersFault → Type 0
Refuses name order Spells IsWithin text fault = RefusesSolid name order Spells IsWithin (solid text) fault
