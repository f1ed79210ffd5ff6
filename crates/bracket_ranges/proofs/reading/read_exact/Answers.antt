use Rattle.bracket_ranges.proofs.ReadSteps.{exact_past}
use Rattle.bracket_ranges.proofs.reading.read_exact.Goals as goal

pub returns-in-Past : goal.returns-in-Past
returns-in-Past g c = exact_past g.B.Scheme.Spells c.args.text.now _ c.in-Past.at (rw c.in-Past.is at c.in_ok-version.ensures)
