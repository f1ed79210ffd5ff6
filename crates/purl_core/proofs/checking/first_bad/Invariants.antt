use Rattle.std.proofs.Common.{length}
use Rattle.purl_core.specs.Places.{HasPiece, IsNoneAt}
use Rattle.purl_core.specs.Steps.Placing.{IsWithin, left}
use Rattle.purl_core.proofs.Firsts.{Goes}
use Rattle.purl_core.proofs.checking.first_bad.Given as goal

abbrev pub invariant-pieces : goal.invariant-pieces
invariant-pieces l = record {
  within : IsWithin l.walk;
  goes : Goes HasPiece IsNoneAt (left l.fn.pieces) (left l.walk);
}

abbrev pub decreases-pieces : goal.decreases-pieces
decreases-pieces l = length (left l.walk)
