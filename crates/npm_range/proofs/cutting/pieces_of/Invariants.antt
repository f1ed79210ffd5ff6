-- The pieces so far, with those of the rest, are the pieces of the text.
use Rattle.std.proofs.Common.{◌≡◌, ◌+◌, ◌++◌, List, length}
use Rattle.std.specs.List.{AllByRecursion}
use Rattle.vx_range.specs.Pieces.{Written, all_as_written, IsInPlace}
use Rattle.npm_range.specs.declared.cutting.Kind.{Kind}
use Rattle.npm_range.specs.Cutting.{ArePieces}
use Rattle.npm_range.proofs.cutting.pieces_of.Given as goal

abbrev pub invariant-loop-piece : goal.invariant-loop-piece
invariant-loop-piece l = record {
  place : l.from + length l.rest ≡ l.fn.at + length l.fn.text;
  found : (more : List (Written Kind)) → ArePieces l.from l.rest more → ArePieces l.fn.at l.fn.text (all_as_written l.pieces ++ more);
  placed : AllByRecursion IsInPlace (all_as_written l.pieces);
}

abbrev pub decreases-loop-piece : goal.decreases-loop-piece
decreases-loop-piece l = length l.rest
