-- The pieces so far, with those of the rest, are the pieces of the text.
use Rattle.std.proofs.Common.{◌≡◌, ◌+◌, ◌++◌, length}
use Rattle.std.specs.List.{AllByRecursion}
use Rattle.vx_range.specs.Pieces.{all_as_written, IsInPlace}
use Rattle.bracket_ranges.specs.Cutting.{bracket_pieces, closed_parts, next_pieces}
use Rattle.bracket_ranges.proofs.cutting.bracket_pieces.Given as goal

abbrev pub invariant-loop-rest : goal.invariant-loop-rest
invariant-loop-rest l = record {
  found : all_as_written l.pieces ++ next_pieces l.lists l.from (closed_parts l.rest) ≡ bracket_pieces l.lists l.fn.at (closed_parts l.fn.text);
  place : l.from + length l.rest ≡ l.fn.at + length l.fn.text;
  placed : AllByRecursion IsInPlace (all_as_written l.pieces);
}

abbrev pub decreases-loop-rest : goal.decreases-loop-rest
decreases-loop-rest l = length l.rest
