-- Pieces with their places.
use Rattle.std.specs.Prelude.{◌+◌, ◌<◌, ◌^◌, ℕ, List, map, length}
use Rattle.vx_range.specs.declared.piece.Piece.{Piece}

-- a piece as it is written, of which kind it is, and where it begins in the range text
pub record Written (K : Type 0) : Type 0 where
  pub kind : K
  pub at : ℕ
  pub bytes : List ℕ

-- the piece that the program holds
abbrev pub as_written : {K : Type 0} → Piece K → Written K
as_written piece = record { kind = piece.kind; at = piece.at; bytes = piece.bytes.now }

-- the pieces of a group that the program holds
abbrev pub all_as_written : {K : Type 0} → List (Piece K) → List (Written K)
all_as_written group = map as_written group

-- the piece ends within the places of a text
abbrev pub IsInPlace : {K : Type 0} → Written K → Type 0
IsInPlace piece = piece.at + length piece.bytes < 2 ^ 64
