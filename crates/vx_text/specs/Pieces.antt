-- The pieces of a text: its parts between the separators, without the blanks at their ends.
use Rattle.std.specs.Prelude.{◌≡◌, ◌==◌, ◌+◌, ◌-◌, ◌<◌, ℕ, true, false, List, [], ◌∷◌, ◌++◌, length, slice_index, if◌then◌else◌}
use Rattle.std.specs.List.{prefix_len, suffix_len, join_with_byte, list_all, AllByRecursion}
use Rattle.vx_spec.specs.Marks.{Lacks}
use Rattle.vx_spec.specs.Runs.{is_blank}
use Rattle.vx_text.specs.declared.cutting.Piece.{Piece}

-- the piece of a part that begins at this place; a blank part is an empty piece at its own start
abbrev pub piece_of : ℕ → List ℕ → Piece
piece_of at part =
    if prefix_len is_blank part == length part
    then record { start = at; end = at }
    else record { start = at + prefix_len is_blank part; end = at + (length part - suffix_len is_blank part) }

-- the pieces of parts with a separator between each two, the first of which begins at this place
abbrev pub places : ℕ → List (List ℕ) → List Piece
places at [] = []
places at (part ∷ parts) = piece_of at part ∷ places (at + length part + 1) parts

-- a text that neither begins nor ends with a blank
pub record IsTight (text : List ℕ) : Type 0 where
  pub first : 0 < length text → is_blank (slice_index text 0) ≡ false
  pub last : 0 < length text → is_blank (slice_index text (length text - 1)) ≡ false

-- The part that begins at this place is the piece with blanks on each side, or all of it is blank and the piece is
-- empty, at the part's start.
pub record IsPiece (at : ℕ) (part : List ℕ) (piece : Piece) : Type 0 where
  pub before : List ℕ
  pub inside : List ℕ
  pub behind : List ℕ
  pub joined : part ≡ before ++ (inside ++ behind)
  pub blank_before : list_all is_blank before ≡ true
  pub blank_behind : list_all is_blank behind ≡ true
  pub tight : IsTight inside
  pub own_start : inside ≡ [] → before ≡ []
  pub start : piece.start ≡ at + length before
  pub end : piece.end ≡ piece.start + length inside

-- these are the pieces of the parts, in their order
abbrev pub AreTheirPieces : ℕ → List (List ℕ) → List Piece → Type 0
AreTheirPieces at [] [] = Unit {0}
AreTheirPieces at [] (piece ∷ pieces) = ⊥
AreTheirPieces at (part ∷ parts) [] = ⊥
AreTheirPieces at (part ∷ parts) (piece ∷ pieces) = IsPiece at part piece × AreTheirPieces (at + length part + 1) parts pieces

-- the text is parts that lack the separator, joined by it, and these are their pieces
pub record ArePieces (separator : ℕ) (text : List ℕ) (pieces : List Piece) : Type 0 where
  pub parts : List (List ℕ)
  pub some : 0 < length parts
  pub joined : text ≡ join_with_byte separator parts
  pub apart : AllByRecursion (Lacks separator) parts
  pub stand : AreTheirPieces 0 parts pieces

-- the parts that are not empty
abbrev pub kept_parts : List (List ℕ) → List (List ℕ)
kept_parts [] = []
kept_parts ([] ∷ parts) = kept_parts parts
kept_parts ((b ∷ part) ∷ parts) = (b ∷ part) ∷ kept_parts parts
