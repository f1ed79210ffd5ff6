-- Relations: an operator, blanks or none, and a version. `is_sign` tells the bytes of operators, `HasSigns` how each
-- operator is written, `Spells` what a text spells, and `first_past` where in a version's text that begins at a place the
-- first numeral past the limit begins.
use Rattle.std.specs.Prelude.{◌≡◌, ◌+◌, ◌-◌, ℕ, Bool, List, length, Option, Some}
use Rattle.vx_spec.specs.Runs.{is_blank, run, past}
use Rattle.vx_range.specs.Lists.{Plain, groups_of}
use Rattle.vx_range.specs.Reading as ranges
use Rattle.relation_ranges.specs.declared.relations.Relation.{Relation}

-- a text is a comma list, whose pieces are parted at a bar, where the language has one
abbrev pub IsCut : Option ℕ → List ℕ → List (List Plain) → Type 0
IsCut bar text groups = groups ≡ groups_of bar text

-- what stands behind the signs and the blanks
abbrev pub version_text : (ℕ → Bool) → List ℕ → List ℕ
version_text is_sign bytes = past is_blank (past is_sign bytes)

-- where it begins in the range text
abbrev pub version_place : (ℕ → Bool) → Plain → ℕ
version_place is_sign piece = piece.at + (length piece.bytes - length (version_text is_sign piece.bytes))

-- the piece is the relation: the signs at its front are the operator's, and the rest spells the version
pub record ReadsAs {O V : Type 0} (is_sign : ℕ → Bool) (HasSigns : O → List ℕ → Type 0) (Spells : List ℕ → V → Type 0) (piece : Plain) (relation : Relation O V) : Type 0 where
  pub operator : HasSigns relation.operator (run is_sign piece.bytes)
  pub version : Spells (version_text is_sign piece.bytes) relation.version

-- the piece is a relation, and the first numeral of its version that is past the limit begins at this place
pub record IsPast {O V : Type 0} (is_sign : ℕ → Bool) (HasSigns : O → List ℕ → Type 0) (Spells : List ℕ → V → Type 0) (first_past : ℕ → List ℕ → Option ℕ) (piece : Plain) (at : ℕ) : Type 0 where
  pub relation : Relation O V
  pub reads : ReadsAs is_sign HasSigns Spells piece relation
  pub first : first_past (version_place is_sign piece) (version_text is_sign piece.bytes) ≡ Some at

-- The text reads as these terms of relations, with numerals of any length.
abbrev pub Reads : {O V : Type 0} → Option ℕ → (ℕ → Bool) → (O → List ℕ → Type 0) → (List ℕ → V → Type 0) → List ℕ → List (List (Relation O V)) → Type 0
Reads bar is_sign HasSigns Spells = ranges.Reads (IsCut bar) (ReadsAs is_sign HasSigns Spells)
