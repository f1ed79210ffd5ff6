-- VERS, "<version-constraint>" and "Parsing and validating version range specifiers": which texts spell a list of
-- constraints. `Spells` and `order` are those of a scheme, and numerals have no limit.
use Rattle.std.specs.Prelude.{◌≡◌, ◌≢◌, ◌<◌, ◌≤◌, ◌⊎◌, ℕ, List, [], ◌∷◌, ◌++◌, codes, length, IsUtf8, IsPermutation}
use Rattle.std.specs.List.{AllByRecursion, join_with_byte}
use Rattle.std.specs.declared.cmp.Ordering.{Ordering}
use Rattle.vx_spec.specs.Each.{AreEach}
use Rattle.vx_spec.specs.Marks.{Lacks}
use Rattle.vx_text.specs.Pieces.{kept_parts}
use Rattle.vx_scheme.specs.declared.name.SchemeName.{SchemeName}
use Rattle.vx_text.specs.Escapes.{IsWhole, unescaped}
use Rattle.vx_vers.specs.declared.constraints.Comparator.{Comparator}
use Rattle.vx_vers.specs.declared.constraints.Comparator.TheVariants.{Equal as EqualTo}
use Rattle.vx_vers.specs.declared.constraints.Constraint.{Constraint}
use Rattle.vx_vers.specs.Heads.{HasHead, solid}
use Rattle.vx_vers.specs.Sorted.{IsSorted}
use Rattle.vx_vers.specs.Texts.{sign}

-- The text is parts with '|' between each two, and the written constraints are those that are not empty; '|' is 124.
pub record AreParts (text : List ℕ) (written : List (List ℕ)) : Type 0 where
  pub parts : List (List ℕ)
  pub some : 0 < length parts
  pub joined : text ≡ join_with_byte 124 parts
  pub apart : AllByRecursion (Lacks 124) parts
  pub counted : written ≡ kept_parts parts

-- a text without blanks is the head of the scheme and the written constraints
pub record IsWritten (name : SchemeName) (text : List ℕ) (written : List (List ℕ)) : Type 0 where
  pub behind : List ℕ
  pub head : HasHead text name behind
  pub parts : AreParts behind written

-- the text writes the comparator; `=` may be left out
abbrev pub Writes : List ℕ → Comparator → Type 0
Writes text comparator = (text ≡ sign comparator) ⊎ ((comparator ≡ EqualTo) × (text ≡ codes "="))

-- the text is the longest comparator that fits, and the rest
pub record IsSigned (text : List ℕ) (comparator : Comparator) (rest : List ℕ) : Type 0 where
  pub front : List ℕ
  pub writes : Writes front comparator
  pub joined : text ≡ front ++ rest
  pub longest : (other : List ℕ) (c : Comparator) (more : List ℕ) → Writes other c → text ≡ other ++ more → length other ≤ length front

-- behind the comparator something stands, each '%' begins an escape, and what the escapes stand for is UTF-8
pub record HasForm (raw : List ℕ) : Type 0 where
  pub some : raw ≢ []
  pub whole : IsWhole raw
  pub utf8 : IsUtf8 (unescaped raw)

-- the text is a comparator, and a version's text with its escapes
pub record SpellsConstraint {V : Type 0} (Spells : List ℕ → V → Type 0) (text : List ℕ) (constraint : Constraint V) : Type 0 where
  pub raw : List ℕ
  pub signed : IsSigned text constraint.comparator raw
  pub form : HasForm raw
  pub version : Spells (unescaped raw) constraint.version

-- the texts spell the constraints, one each, in their order
abbrev pub SpellEach : {V : Type 0} → (List ℕ → V → Type 0) → List (List ℕ) → List (Constraint V) → Type 0
SpellEach Spells texts constraints = AreEach (SpellsConstraint Spells) texts constraints

-- no text is `*`
abbrev pub NoStar : List (List ℕ) → Type 0
NoStar written = AllByRecursion (λ text. text ≢ codes "*") written

-- one of the texts is `*`
abbrev pub HasStar : List (List ℕ) → Type 0
HasStar [] = ⊥
HasStar (text ∷ written) = (text ≡ codes "*") ⊎ HasStar written

-- The written constraints are `*` alone, and the list is empty.
pub record IsStarAlone {C : Type 0} (written : List (List ℕ)) (list : List C) : Type 0 where
  pub star : written ≡ codes "*" ∷ []
  pub every : list ≡ []

-- There are written constraints, none of them `*`, and the list is what they spell, sorted. That it is sorted says
-- that no two versions are order-equal.
pub record IsListOf {V : Type 0} (order : V → V → Ordering) (Spells : List ℕ → V → Type 0) (written : List (List ℕ)) (list : List (Constraint V)) : Type 0 where
  pub some : written ≢ []
  pub stars : NoStar written
  pub constraints : List (Constraint V)
  pub spelled : SpellEach Spells written constraints
  pub same : IsPermutation constraints list
  pub sorted : IsSorted order list

-- a text without blanks spells the list
pub record SpellsSolid {V : Type 0} (name : SchemeName) (order : V → V → Ordering) (Spells : List ℕ → V → Type 0) (text : List ℕ) (list : List (Constraint V)) : Type 0 where
  pub written : List (List ℕ)
  pub is : IsWritten name text written
  pub means : IsStarAlone written list ⊎ IsListOf order Spells written list

-- The text spells the list, with its blanks left out.
abbrev pub SpellsList : {V : Type 0} → SchemeName → (V → V → Ordering) → (List ℕ → V → Type 0) → List ℕ → List (Constraint V) → Type 0
SpellsList name order Spells text list = SpellsSolid name order Spells (solid text) list

-- each version is within the limits of the scheme
abbrev pub EachWithin : {V : Type 0} → (V → Type 0) → List (Constraint V) → Type 0
EachWithin IsWithin list = AllByRecursion (λ c. IsWithin c.version) list
