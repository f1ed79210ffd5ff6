use Rattle.std.proofs.Common.{length}
use Rattle.purl_core.specs.Places.{IsBrokenAt, values}
use Rattle.vx_text.specs.Escapes.{IsWhole}
use Rattle.purl_core.specs.Steps.Placing.{IsWithin, left}
use Rattle.purl_core.proofs.Firsts.{Goes}
use Rattle.purl_core.proofs.checking.escape_in_values.Given as goal

abbrev pub invariant-pieces : goal.invariant-pieces
invariant-pieces l = record {
  within : IsWithin l.walk;
  goes : Goes IsWhole IsBrokenAt (values (left l.fn.pieces)) (values (left l.walk));
}

abbrev pub decreases-pieces : goal.decreases-pieces
decreases-pieces l = length (left l.walk)
