use Rattle.std.proofs.Common.{◌≡◌, ◌+◌, length}
use Rattle.npm_range.specs.Steps.Bars.{before_bars}
use Rattle.npm_range.proofs.cutting.before_bars.Given as goal

abbrev pub invariant-loop-rest : goal.invariant-loop-rest
invariant-loop-rest l = (l.at + before_bars l.rest ≡ before_bars l.fn.text) × (l.at + length l.rest ≡ length l.fn.text)

abbrev pub decreases-loop-rest : goal.decreases-loop-rest
decreases-loop-rest l = length l.rest
