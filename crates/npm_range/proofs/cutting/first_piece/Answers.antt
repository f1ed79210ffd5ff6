use Rattle.std.proofs.Common.{rules}
use Rattle.npm_range.specs.Laws.Cuts.{piece_shorter}
use Rattle.npm_range.proofs.cutting.first_piece.Goals as goal

pub returns-clause-shorter : goal.returns-clause-shorter
returns-clause-shorter c =
    rw (c.past_run-rest.ensures.past, c.past_run-word.ensures.past, c.past_run-behind_signs.ensures.past, c.past_run-from.ensures.past)
    (piece_shorter c.args.text.now (search rules))
