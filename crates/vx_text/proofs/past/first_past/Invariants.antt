-- The rest decides.
use Rattle.std.proofs.Common.{◌≡◌, ◌+◌, length}
use Rattle.vx_text.specs.Past.{first_past}
use Rattle.vx_text.proofs.past.first_past.Given as goal

abbrev pub invariant-runs : goal.invariant-runs
invariant-runs l = (first_past l.from l.rest ≡ first_past l.fn.at l.fn.text) × (l.from + length l.rest ≡ l.fn.at + length l.fn.text)

abbrev pub decreases-runs : goal.decreases-runs
decreases-runs l = length l.rest
