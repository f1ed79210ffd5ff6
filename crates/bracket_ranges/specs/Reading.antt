-- What a piece is read as, after the POM Reference, "Dependency Version Requirement Specification", and NuGet's "Package
-- versioning", "Version ranges". `Spells` says what a text spells, `first_past` where in a version's text that begins at a place
-- the first numeral past the limit begins, and `alone` which bracket a version alone stands for.
use Rattle.std.specs.Prelude.{◌≡◌, ◌+◌, ◌++◌, ℕ, Bool, true, List, [], ◌∷◌, length, Option, Some, None}
use Rattle.std.specs.Option.{option_or}
use Rattle.vx_spec.specs.Runs.{trimmed}
use Rattle.vx_spec.specs.Marks.{Lacks, marked}
use Rattle.vx_range.specs.Pieces.{Written}
use Rattle.vx_range.specs.Lists.{piece_place}
use Rattle.bracket_ranges.specs.declared.cutting.Kind.{Kind}
use Rattle.bracket_ranges.specs.declared.cutting.Kind.TheVariants as kind_of
use Rattle.bracket_ranges.specs.declared.bracket.Bound.{Bound}
use Rattle.bracket_ranges.specs.declared.bracket.Bracket.{Bracket}
use Rattle.bracket_ranges.specs.declared.bracket.Bracket.TheVariants.{Exact, Between}
use Rattle.bracket_ranges.specs.Signs.{is_opening, is_closing, is_square}

-- ---- the parts of a bracket

-- its signs, what stands between them before the first comma, and what behind it, where there is a comma
pub record Parts : Type 0 where
  pub opening : ℕ
  pub front : List ℕ
  pub back : Option (List ℕ)
  pub closing : ℕ

-- what stands behind the first comma holds no other
abbrev pub BackLacks : Option (List ℕ) → Type 0
BackLacks None = Unit {0}
BackLacks (Some back) = Lacks 44 back

-- the bytes are a bracket of these parts, with one comma (44) or none
pub record IsBracket (bytes : List ℕ) (parts : Parts) : Type 0 where
  pub joined : bytes ≡ parts.opening ∷ ((parts.front ++ marked 44 parts.back) ++ parts.closing ∷ [])
  pub opens : is_opening parts.opening ≡ true
  pub closes : is_closing parts.closing ≡ true
  pub first : Lacks 44 parts.front
  pub one : BackLacks parts.back

-- ---- constructs

module _ {V : Type 0} (Spells : List ℕ → V → Type 0) where
  -- a side without its blanks is the version of its bound, which the sign beside it lets in or not; a blank side has no bound
  abbrev pub ReadsBound : Bool → List ℕ → Option (Bound V) → Type 0
  ReadsBound included side None = trimmed side ≡ []
  ReadsBound included side (Some bound) = Spells (trimmed side) bound.version × (bound.included ≡ included)

  -- `[V]` holds no blank, and has two square signs; a bracket with a comma has two sides
  abbrev pub ReadsInside : Bool → Bool → List ℕ → Option (List ℕ) → Bracket V → Type 0
  ReadsInside opening closing front None (Exact version) = (opening ≡ true) × (closing ≡ true) × Spells front version
  ReadsInside opening closing front None (Between lower upper) = ⊥
  ReadsInside opening closing front (Some back) (Exact version) = ⊥
  ReadsInside opening closing front (Some back) (Between lower upper) = ReadsBound opening front lower × ReadsBound closing back upper

  abbrev pub ReadsParts : Parts → Bracket V → Type 0
  ReadsParts parts bracket = ReadsInside (is_square parts.opening) (is_square parts.closing) parts.front parts.back bracket

  -- the bytes are those of the bracket
  abbrev pub ReadsBracket : List ℕ → Bracket V → Type 0
  ReadsBracket bytes bracket = (parts : Parts) × IsBracket bytes parts × ReadsParts parts bracket

  -- the bytes are a version alone, which stands for the bracket
  abbrev pub ReadsAlone : (V → Bracket V) → List ℕ → Bracket V → Type 0
  ReadsAlone alone bytes bracket = (version : V) × Spells bytes version × (bracket ≡ alone version)

  -- the piece is the bracket, by its kind
  abbrev pub ReadsKind : (V → Bracket V) → Kind → List ℕ → Bracket V → Type 0
  ReadsKind alone kind_of.Alone bytes bracket = ReadsAlone alone bytes bracket
  ReadsKind alone kind_of.Bracket bytes bracket = ReadsBracket bytes bracket
  ReadsKind alone kind_of.Other bytes bracket = ⊥

  abbrev pub ReadsAs : (V → Bracket V) → Written Kind → Bracket V → Type 0
  ReadsAs alone piece bracket = ReadsKind alone piece.kind piece.bytes bracket

-- ---- numerals past the limit

-- where the first one begins in a side without its blanks; a blank side has none
abbrev pub past_in : (ℕ → List ℕ → Option ℕ) → ℕ → List ℕ → Option ℕ
past_in first_past at [] = None
past_in first_past at (b ∷ text) = first_past at (b ∷ text)

abbrev pub side_past : (ℕ → List ℕ → Option ℕ) → ℕ → List ℕ → Option ℕ
side_past first_past at side = past_in first_past (piece_place at side (trimmed side)) (trimmed side)

-- the first one between the signs, what stands there beginning at this place: that of the lower side, else of the upper
abbrev pub inside_past : (ℕ → List ℕ → Option ℕ) → ℕ → List ℕ → Option (List ℕ) → Option ℕ
inside_past first_past at front None = first_past at front
inside_past first_past at front (Some back) = option_or (side_past first_past at front) (side_past first_past (at + length front + 1) back)

abbrev pub parts_past : (ℕ → List ℕ → Option ℕ) → ℕ → Parts → Option ℕ
parts_past first_past at parts = inside_past first_past (at + 1) parts.front parts.back

module _ {V : Type 0} (Spells : List ℕ → V → Type 0) (first_past : ℕ → List ℕ → Option ℕ) where
  -- a piece of this kind that begins here is a bracket, and its first numeral past the limit begins at that place
  abbrev pub IsKindPast : Kind → ℕ → List ℕ → ℕ → Type 0
  IsKindPast kind_of.Alone at bytes place = (version : V) × Spells bytes version × (first_past at bytes ≡ Some place)
  IsKindPast kind_of.Bracket at bytes place = (bracket : Bracket V) × (parts : Parts) × IsBracket bytes parts × ReadsParts Spells parts bracket × (parts_past first_past at parts ≡ Some place)
  IsKindPast kind_of.Other at bytes place = ⊥

  abbrev pub IsPast : Written Kind → ℕ → Type 0
  IsPast piece place = IsKindPast piece.kind piece.at piece.bytes place
