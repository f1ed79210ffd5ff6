use Rattle.std.proofs.Common.{◌≡◌, ◌++◌}
use Rattle.vx_interval.specs.Steps.Opened.{spans_from}
use Rattle.vx_scheme.specs.Cuts.{spans_of}
use Rattle.vx_interval.proofs.set.spans_between.Given as goal

abbrev pub invariant-loop-cut : goal.invariant-loop-cut
invariant-loop-cut g l = l.spans ++ spans_from l.inside l.lower l.cut-iterator.rest.items ≡ spans_of l.fn.starts l.fn.cuts
