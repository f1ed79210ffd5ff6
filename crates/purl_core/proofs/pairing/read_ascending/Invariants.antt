use Rattle.std.proofs.Common.{length, map}
use Rattle.purl_core.specs.Value.{pair_view}
use Rattle.purl_core.specs.Places.{IsOtherAt, IsText, values}
use Rattle.purl_core.specs.Steps.Placing.{IsWithin, left}
use Rattle.purl_core.proofs.Firsts.{Goes}
use Rattle.purl_core.proofs.SoFar.{IsSoFar}
use Rattle.purl_core.proofs.pairing.read_ascending.Given as goal

abbrev pub invariant-pieces : goal.invariant-pieces
invariant-pieces l = record {
  within : IsWithin l.walk;
  so_far : IsSoFar (left l.fn.pieces) (left l.walk) (map pair_view l.pairs);
  text : Goes IsText IsOtherAt (values (left l.fn.pieces)) (values (left l.walk));
}

abbrev pub decreases-pieces : goal.decreases-pieces
decreases-pieces l = length (left l.walk)
