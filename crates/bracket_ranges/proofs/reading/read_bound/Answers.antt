use Rattle.std.proofs.Common.{rules}
use Rattle.vx_range.specs.Pieces.{as_written}
use Rattle.bracket_ranges.proofs.ReadSteps.{bound_past}
use Rattle.bracket_ranges.proofs.reading.read_bound.Goals as goal

pub returns-in-Past : goal.returns-in-Past
returns-in-Past g c =
    bound_past g.B.Scheme.Spells c.args.included c.args.side.now g.B.PlacedVersions.first_past c.args.at (as_written c.piece_of-text.result) c.piece_of-text.ensures.piece (search rules)
    c.in-Past.at (rw c.in-Past.is at c.in_ok-version.ensures)
