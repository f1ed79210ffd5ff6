use Rattle.vx_text.proofs.EscapeLaws.{undone}
use Rattle.vx_text.proofs.escapes.escapes_are_undone.Goals as goal

pub returns : goal.returns
returns c = undone
