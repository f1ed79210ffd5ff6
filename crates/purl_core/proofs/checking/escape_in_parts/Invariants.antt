use Rattle.std.proofs.Common.{length}
use Rattle.purl_core.specs.Places.{IsBrokenAt}
use Rattle.vx_text.specs.Escapes.{IsWhole}
use Rattle.purl_core.specs.Steps.Placing.{IsWithin, left}
use Rattle.purl_core.proofs.Firsts.{Goes}
use Rattle.purl_core.proofs.checking.escape_in_parts.Given as goal

abbrev pub invariant-parts : goal.invariant-parts
invariant-parts l = record {
  within : IsWithin l.walk;
  goes : Goes IsWhole IsBrokenAt (left l.fn.parts) (left l.walk);
}

abbrev pub decreases-parts : goal.decreases-parts
decreases-parts l = length (left l.walk)
