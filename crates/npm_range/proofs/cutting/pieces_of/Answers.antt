use Rattle.std.proofs.Common.{append-nil, []}
use Rattle.npm_range.proofs.cutting.pieces_of.Goals as goal

pub returns-clause-pieces : goal.returns-clause-pieces
returns-clause-pieces c = rw append-nil at (c.loop-piece.invariant.found [] c.in_default.ensures.piece)
