use Rattle.vx_text.specs.Escapes.{IsWholeBefore}
use Rattle.vx_text.proofs.escapes.first_broken.Given as goal

abbrev pub invariant-bytes : goal.invariant-bytes
invariant-bytes l = IsWholeBefore l.bytes l.i
