-- What is gone from `rest` was appended, and no call has failed.
use Rattle.std.proofs.Common.{◌≡◌, ℕ, List, ◌++◌, length}
use Rattle.std.specs.Io.KnownBytes.{Appends}
use Rattle.vx_lines.specs.Outside.{Succeeds}
use Rattle.vx_lines.proofs.outside.write_whole.Given as goal

abbrev pub invariant-loop-rest : goal.invariant-loop-rest
invariant-loop-rest g l = (done : List ℕ)
    × (l.fn.bytes ≡ done ++ l.rest)
    × Appends (g.W.Sink.held l.fn.sink) (g.W.Sink.held l.sink) done
    × (g.W.Sink.faults l.sink ≡ g.W.Sink.faults l.fn.sink)
    × Succeeds g.W.Sink.write_gives l.fn.sink l.sink

abbrev pub decreases-loop-rest : goal.decreases-loop-rest
decreases-loop-rest g l = length l.rest
