use Rattle.bracket_ranges.proofs.ReadSteps.{both_answer}
use Rattle.bracket_ranges.proofs.reading.read_between.Goals as goal

pub returns : goal.returns
returns g c =
    rw c.both.ensures
    (both_answer g.B.Scheme.Spells c.args.opening c.args.closing c.args.front.now c.args.back.now _ _ c.in_ok-lower.lower c.in_ok-upper.upper c.in_ok-lower.ensures c.in_ok-upper.ensures)
