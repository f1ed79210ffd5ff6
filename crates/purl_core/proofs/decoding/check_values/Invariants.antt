use Rattle.std.proofs.Common.{length}
use Rattle.purl_core.specs.Places.{IsOtherAt, IsText, values}
use Rattle.purl_core.specs.Steps.Placing.{IsWithin, left}
use Rattle.purl_core.proofs.Firsts.{Goes}
use Rattle.purl_core.proofs.decoding.check_values.Given as goal

abbrev pub invariant-pieces : goal.invariant-pieces
invariant-pieces l = record {
  within : IsWithin l.walk;
  goes : Goes IsText IsOtherAt (values (left l.fn.pieces)) (values (left l.walk));
}

abbrev pub decreases-pieces : goal.decreases-pieces
decreases-pieces l = length (left l.walk)
