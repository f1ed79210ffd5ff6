-- What is left decides.
use Rattle.std.proofs.Common.{◌≡◌, ◌+◌, length}
use Rattle.vx_order.specs.Dotted.{dotted}
use Rattle.vx_order.specs.PastParts.{first_past_part}
use Rattle.vx_order.proofs.past_parts.first_past_part.Given as goal

abbrev pub invariant-parts : goal.invariant-parts
invariant-parts l = record {
  decides : first_past_part l.from (dotted l.rest) ≡ first_past_part l.at (dotted l.fn.text);
  bytes : l.from + length l.rest ≡ l.at + length l.fn.text;
}

abbrev pub decreases-parts : goal.decreases-parts
decreases-parts l = length l.rest
