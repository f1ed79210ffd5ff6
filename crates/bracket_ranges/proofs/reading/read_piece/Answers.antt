use Rattle.std.proofs.lemmas.Result.{IfOk-weaker}
use Rattle.vx_range.specs.Pieces.{as_written}
use Rattle.bracket_ranges.specs.Steps.Inside.{parts_of}
use Rattle.bracket_ranges.proofs.ReadSteps.{piece_answer}
use Rattle.bracket_ranges.proofs.reading.read_piece.Goals as goal

pub returns-in-Some : goal.returns-in-Some
returns-in-Some g c =
    let answer = piece_answer g.B.Scheme.Spells g.B.Brackets.alone g.B.PlacedVersions.first_past (as_written c.args.piece.now) (parts_of c.in-Some.parts) c.in-Bracket.is c.in-Some.ensures.parts in
    IfOk-weaker c.read_inside.result _ _ answer c.read_inside.ensures
