-- Lists of pieces with their places: the parts of a text between the separators, without the blanks at their ends.
use Rattle.std.specs.Prelude.{◌≡◌, ◌==◌, ◌+◌, ℕ, Bool, true, false, List, [], ◌∷◌, length, filter, map, Option, Some, None}
use Rattle.std.specs.List.{prefix_len, slice_split}
use Rattle.vx_spec.specs.Runs.{is_blank, trimmed}
use Rattle.vx_text.specs.declared.cutting.Piece.{Piece as TextPiece}
use Rattle.vx_range.specs.Pieces.{Written}

-- a piece of a list, of which there is one kind
abbrev pub Plain : Type 0
Plain = Written (Unit {0})

-- where the piece of a part begins that begins at this place: a blank part is an empty piece at its own start
abbrev pub piece_place : ℕ → List ℕ → List ℕ → ℕ
piece_place at part [] = at
piece_place at part (b ∷ bytes) = at + prefix_len is_blank part

-- the piece of a part that begins at this place
abbrev pub piece_of : ℕ → List ℕ → Plain
piece_of at part = record { kind = tt; at = piece_place at part (trimmed part); bytes = trimmed part }

-- the pieces of parts with a separator between each two, the first of which begins at this place
abbrev pub pieces_of : ℕ → List (List ℕ) → List Plain
pieces_of at [] = []
pieces_of at (part ∷ parts) = piece_of at part ∷ pieces_of (at + length part + 1) parts

-- the pieces of a text that begins at this place, between its separators
abbrev pub pieces_at : ℕ → ℕ → List ℕ → List Plain
pieces_at separator at text = pieces_of at (slice_split (λ b. b == separator) text)

-- some byte stands there
abbrev pub is_some : List ℕ → Bool
is_some [] = false
is_some (b ∷ bytes) = true

-- empty pieces of a list are skipped
abbrev pub not_empty : List Plain → List Plain
not_empty pieces = filter (λ piece. is_some piece.bytes) pieces

-- the pieces of a piece of a comma list: those between its inner separators, or itself where there is none
abbrev pub group_of : Option ℕ → Plain → List Plain
group_of None piece = piece ∷ []
group_of (Some inner) piece = pieces_at inner piece.at piece.bytes

-- The groups of a comma list (44): one for each piece that is not empty.
abbrev pub groups_of : Option ℕ → List ℕ → List (List Plain)
groups_of inner text = map (group_of inner) (not_empty (pieces_at 44 0 text))

-- a piece of a text, as it is told by its two ends, is the piece that is written there
abbrev pub IsPlaced : TextPiece → Plain → Type 0
IsPlaced piece written = (piece.start ≡ written.at) × (piece.end ≡ written.at + length written.bytes)
