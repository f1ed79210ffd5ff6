use Rattle.vx_range.proofs.PieceLaws.{pieces_placed}
use Rattle.vx_range.proofs.lists.pieces_are_those_of_texts.Goals as goal

pub returns : goal.returns
returns c = pieces_placed
