-- The pieces so far, with those of the rest, are the pieces of the text.
use Rattle.std.proofs.Common.{◌≡◌, ◌+◌, ◌++◌, length, map}
use Rattle.std.specs.List.{AllByRecursion}
use Rattle.vx_range.specs.Pieces.{as_written, IsInPlace}
use Rattle.vx_range.specs.Lists.{pieces_at}
use Rattle.vx_range.proofs.lists.pieces_at.Given as goal

abbrev pub invariant-loop-pieces : goal.invariant-loop-pieces
invariant-loop-pieces l = record {
  found : map as_written l.pieces ++ pieces_at l.separator l.from l.rest ≡ pieces_at l.separator l.fn.at l.fn.text;
  place : l.from + length l.rest ≡ l.fn.at + length l.fn.text;
  placed : AllByRecursion IsInPlace (map as_written l.pieces);
}

abbrev pub decreases-loop-pieces : goal.decreases-loop-pieces
decreases-loop-pieces l = length l.rest
