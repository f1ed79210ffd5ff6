use Rattle.vx_batch.specs.Laws.Translations.{says}
use Rattle.vx_batch.proofs.laws.accepted_lines_say.Goals as goal

pub returns : goal.returns
returns c = says
