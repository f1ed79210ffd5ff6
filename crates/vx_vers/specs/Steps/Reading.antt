-- What the steps of reading answer.
use Rattle.std.specs.Prelude.{◌≡◌, ◌≢◌, ◌==◌, ◌&&◌, ◌⊎◌, ◌+◌, ◌++◌, ℕ, Bool, true, not, bytes_eq, List, [], ◌∷◌, codes, length, Some, Result, Ok, Err}
use Rattle.std.specs.List.{list_all, slice_split}
use Rattle.std.specs.declared.cmp.Ordering.{Ordering}
use Rattle.vx_spec.specs.Firsts.{IsFirst}
use Rattle.vx_spec.specs.Runs.{is_solid}
use Rattle.vx_scheme.specs.declared.name.SchemeName.{SchemeName}
use Rattle.vx_scheme.specs.declared.version_fault.VersionFault.{VersionFault}
use Rattle.vx_scheme.specs.declared.version_fault.VersionFault.TheVariants as version_fault_of
use Rattle.vx_vers.specs.declared.constraints.Comparator.{Comparator}
use Rattle.vx_vers.specs.declared.constraints.Constraint.{Constraint}
use Rattle.vx_vers.specs.declared.fault.VersFault.{VersFault}
use Rattle.vx_vers.specs.declared.fault.VersFault.TheVariants as fault_of
use Rattle.vx_text.specs.Pieces.{kept_parts}
use Rattle.vx_vers.specs.Grammar.{SpellsSolid, IsStarAlone, IsListOf, SpellEach, SpellsConstraint, EachWithin}
use Rattle.vx_vers.specs.Refusals.{RefusesSolid, RefusesWritten, RefusesPart, numbered_texts}

-- the byte is no blank, '%' or '*'; '%' is 37, and '*' 42
abbrev pub is_plain : ℕ → Bool
is_plain b = is_solid b && not (b == 37) && not (b == 42)

-- where the text is said to be plain, no byte of it is a blank, '%' or '*'
abbrev pub IsPlainIf : Bool → List ℕ → Type 0
IsPlainIf plain text = (plain ≡ true) → (list_all is_plain text ≡ true)

-- the parts of the text between bars; '|' is 124
abbrev pub parts_of : List ℕ → List (List ℕ)
parts_of text = slice_split (λ b. b == 124) text

-- those that are not empty
abbrev pub written_in : List ℕ → List (List ℕ)
written_in text = kept_parts (parts_of text)

-- the part is not empty
abbrev pub is_some_part : List ℕ → Bool
is_some_part part = not (length part == 0)

-- the part is `*`
abbrev pub is_star : List ℕ → Bool
is_star part = bytes_eq part (codes "*")

-- a refusal that has a cause, or want of memory, which is free
abbrev pub Refused : (VersFault → Type 0) → VersFault → Type 0
Refused Refuses fault = (fault ≢ fault_of.NoMemory) → Refuses fault

-- the list that a text without blanks spells, or its refusal
abbrev pub IsSolidReadAs : {V : Type 0} → SchemeName → (V → V → Ordering) → (List ℕ → V → Type 0) → (V → Type 0) → List ℕ → Result (List (Constraint V)) VersFault → Type 0
IsSolidReadAs name order Spells IsWithin text (Ok list) = SpellsSolid name order Spells text list × EachWithin IsWithin list
IsSolidReadAs name order Spells IsWithin text (Err fault) = Refused (RefusesSolid name order Spells IsWithin text) fault

-- the list of written constraints, or their refusal
abbrev pub IsWrittenReadAs : {V : Type 0} → (V → V → Ordering) → (List ℕ → V → Type 0) → (V → Type 0) → List (List ℕ) → Result (List (Constraint V)) VersFault → Type 0
IsWrittenReadAs order Spells IsWithin written (Ok list) = (IsStarAlone written list ⊎ IsListOf order Spells written list) × EachWithin IsWithin list
IsWrittenReadAs order Spells IsWithin written (Err fault) = Refused (RefusesWritten order Spells IsWithin written) fault

-- the constraints of the texts, in their order, or the first fault
abbrev pub IsEachReadAs : {V : Type 0} → (List ℕ → V → Type 0) → (V → Type 0) → List (List ℕ) → Result (List (Constraint V)) VersFault → Type 0
IsEachReadAs Spells IsWithin texts (Ok list) = SpellEach Spells texts list × EachWithin IsWithin list
IsEachReadAs Spells IsWithin texts (Err fault) = Refused (λ f. IsFirst (RefusesPart Spells IsWithin) (numbered_texts 1 texts) (Some f)) fault

-- the texts in front of those that are left spell the list, within the limits
pub record IsReadUpTo {V : Type 0} (Spells : List ℕ → V → Type 0) (IsWithin : V → Type 0) (texts left : List (List ℕ)) (list : List (Constraint V)) : Type 0 where
  pub done : List (List ℕ)
  pub joined : done ++ left ≡ texts
  pub spelled : SpellEach Spells done list
  pub within : EachWithin IsWithin list

-- the constraint of one text more is appended, where there is a text
abbrev pub IsReadNext : {V : Type 0} → (List ℕ → V → Type 0) → (V → Type 0) → List ℕ → List (Constraint V) → List (Constraint V) → Type 0
IsReadNext Spells IsWithin [] list more = more ≡ list
IsReadNext {V} Spells IsWithin (b ∷ text) list more = (c : Constraint V) × (more ≡ list ++ c ∷ []) × SpellsConstraint Spells (b ∷ text) c × IsWithin c.version

-- a text behind a list is refused, by its number
abbrev pub RefusesNext : {V : Type 0} → (List ℕ → V → Type 0) → (V → Type 0) → List ℕ → List (Constraint V) → VersFault → Type 0
RefusesNext Spells IsWithin text list fault = (text ≢ []) × RefusesPart Spells IsWithin (length list + 1, text) (Some fault)

-- the constraint that the text with this number spells, or its refusal
abbrev pub IsPartReadAs : {V : Type 0} → (List ℕ → V → Type 0) → (V → Type 0) → ℕ × List ℕ → Result (Constraint V) VersFault → Type 0
IsPartReadAs Spells IsWithin part (Ok constraint) = SpellsConstraint Spells part.1 constraint × IsWithin constraint.version
IsPartReadAs Spells IsWithin part (Err fault) = Refused (λ f. RefusesPart Spells IsWithin part (Some f)) fault

-- the fault of the constraint with this number whose version has a fault
abbrev pub version_fault : ℕ → VersionFault → VersFault
version_fault k version_fault_of.NotAVersion = fault_of.Version k
version_fault k version_fault_of.Numeral = fault_of.Numeral k
version_fault k version_fault_of.NoMemory = fault_of.NoMemory

-- the constraint of a version that was read
abbrev pub constraint_of_version : {V : Type 0} → Comparator → ℕ → Result V VersionFault → Result (Constraint V) VersFault
constraint_of_version comparator k (Ok version) = Ok (record { comparator = comparator; version = version })
constraint_of_version comparator k (Err fault) = Err (version_fault k fault)

-- the constraint that was read is appended
abbrev pub IsPushed : {V : Type 0} → Result (Constraint V) VersFault → List (Constraint V) → List (Constraint V) → Type 0
IsPushed {V} answer list more = (c : Constraint V) × (more ≡ list ++ c ∷ []) × (answer ≡ Ok c)

-- the text begins with no comparator of two characters
abbrev pub HasNoLongSign : List ℕ → Type 0
HasNoLongSign text = ((rest : List ℕ) → text ≢ codes "<=" ++ rest) × ((rest : List ℕ) → text ≢ codes ">=" ++ rest) × ((rest : List ℕ) → text ≢ codes "!=" ++ rest)
