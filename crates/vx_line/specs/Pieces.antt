-- Lines as lists of pieces: what lies below the first cut, and the piece directly above each cut, over items C.
use Rattle.std.specs.Prelude.{Bool, cond, List, [], ◌∷◌}
use Rattle.vx_line.specs.declared.line_piece.LinePiece.{LinePiece}
use Rattle.vx_line.specs.Line.{emit}

-- the cuts that the pieces lie above
abbrev pub cuts_below : {C : Type 0} → List (LinePiece C) → List C
cuts_below [] = []
cuts_below (piece ∷ pieces) = piece.cut ∷ cuts_below pieces

-- Whether the piece at a place is in: the last one whose cut lies below the place. `starts` says whether the piece
-- below the first cut is in.
abbrev pub pieces_at : {C : Type 0} → (C → Bool) → Bool → List (LinePiece C) → Bool
pieces_at below starts [] = starts
pieces_at below starts (piece ∷ pieces) = cond (below piece.cut) (pieces_at below piece.inside pieces) starts

-- the cuts at which the pieces change from in to out or from out to in
abbrev pub changes_of : {C : Type 0} → Bool → List (LinePiece C) → List C
changes_of starts [] = []
changes_of starts (piece ∷ pieces) = emit starts piece.inside piece.cut (changes_of piece.inside pieces)
