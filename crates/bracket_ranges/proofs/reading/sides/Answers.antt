use Rattle.bracket_ranges.proofs.ReadSteps.{two_commas}
use Rattle.bracket_ranges.proofs.reading.sides.Goals as goal

pub returns-in-Some-more-clause-parts : goal.returns-in-Some-more-clause-parts
returns-in-Some-more-clause-parts c =
    two_commas c.args.opening c.args.closing c.args.between.now c.cut_bytes.result.0.now c.in-Some.behind.now c.cut_bytes-2.result.0.now _
    (rw c.in-Some.is at c.cut_bytes.ensures) (rw c.in-Some-more.is at c.cut_bytes-2.ensures)
