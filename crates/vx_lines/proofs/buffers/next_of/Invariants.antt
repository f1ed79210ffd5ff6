-- What was taken is the front so far and what is held; each turn takes a byte at least.
use Rattle.std.proofs.Common.{◌≡◌, ◌<◌, ◌-◌, ◌⊎◌, false}
use Rattle.vx_spec.specs.Marks.{Lacks}
use Rattle.vx_lines.specs.Steps.Buffers.{held_of, IsGood}
use Rattle.vx_lines.proofs.Collected.{Collected}
use Rattle.vx_lines.proofs.buffers.next_of.Given as goal

abbrev pub invariant-loop-b : goal.invariant-loop-b
invariant-loop-b g l =
    Collected l.fn.b l.b (g.R.Source.left l.fn.source) (g.R.Source.left l.source)
    × IsGood l.b
    × (l.b.taken < l.b.limit)
    × (l.b.ended ≡ false)
    × (g.R.Source.faults l.source ≡ g.R.Source.faults l.fn.source)
    × (((l.source ≡ l.fn.source) × (held_of l.b ≡ held_of l.fn.b)) ⊎ Lacks 10 (held_of l.fn.b))

abbrev pub decreases-loop-b : goal.decreases-loop-b
decreases-loop-b g l = l.b.limit - l.b.taken
