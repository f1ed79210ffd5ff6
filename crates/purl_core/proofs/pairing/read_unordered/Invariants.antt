use Rattle.std.proofs.Common.{length, map}
use Rattle.purl_core.specs.Places.{AllPieces, AllText, values}
use Rattle.purl_core.specs.Steps.Placing.{IsWithin, left}
use Rattle.purl_core.specs.Steps.Pairing.{entry_view}
use Rattle.purl_core.proofs.SoFar.{IsSoFar}
use Rattle.purl_core.proofs.pairing.read_unordered.Given as goal

abbrev pub invariant-pieces : goal.invariant-pieces
invariant-pieces l = record {
  within : IsWithin l.walk;
  so_far : IsSoFar (left l.fn.pieces) (left l.walk) (map entry_view l.found.entries);
  good : AllPieces (left l.walk);
  text : AllText (values (left l.walk));
}

abbrev pub decreases-pieces : goal.decreases-pieces
decreases-pieces l = length (left l.walk)
