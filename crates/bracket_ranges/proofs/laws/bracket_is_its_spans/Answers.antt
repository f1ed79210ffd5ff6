use Rattle.bracket_ranges.specs.Laws.Spans.{bracket_says}
use Rattle.bracket_ranges.specs.Laws.Refusals.{brackets_run_on}
use Rattle.bracket_ranges.proofs.laws.bracket_is_its_spans.Goals as goal

pub returns-clause-holds : goal.returns-clause-holds
returns-clause-holds g c = bracket_says g.B.Scheme.order g.met.B.Scheme.total

pub returns-clause-marks : goal.returns-clause-marks
returns-clause-marks g c = brackets_run_on g.B.Scheme.order
