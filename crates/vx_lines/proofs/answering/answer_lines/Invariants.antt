-- What the run has done so far; each turn takes a byte at least from what is held and what may be taken.
use Rattle.std.proofs.Common.{◌≡◌, ◌+◌, ◌-◌, ◌≤◌, ◌<◌, length, true}
use Rattle.vx_lines.specs.Outside.{Succeeds}
use Rattle.vx_lines.specs.declared.buffers.TheConstants.{MOST_READ}
use Rattle.vx_lines.proofs.Runs.{Progress}
use Rattle.vx_lines.proofs.answering.answer_lines.Given as goal

abbrev pub invariant-loop-gathered : goal.invariant-loop-gathered
invariant-loop-gathered g l =
    Progress (g.A.Answering.says l.answering) MOST_READ l.lines (g.R.Source.left l.fn.source) (g.R.Source.left l.source) (g.W.Sink.held l.fn.sink) (g.W.Sink.held l.sink) l.gathered l.is_ok
    × (l.lines.is_open ≡ true)
    × (l.lines.limit ≡ l.fn.limit)
    × (l.lines.taken < l.lines.limit)
    × (length l.lines.held ≤ MOST_READ)
    × (g.R.Source.faults l.source ≡ g.R.Source.faults l.fn.source)
    × (g.W.Sink.faults l.sink ≡ g.W.Sink.faults l.fn.sink)
    × Succeeds g.W.Sink.write_gives l.fn.sink l.sink

abbrev pub decreases-loop-gathered : goal.decreases-loop-gathered
decreases-loop-gathered g l = (l.lines.limit - l.lines.taken) + length l.lines.held
