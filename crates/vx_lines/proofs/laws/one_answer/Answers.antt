use Rattle.vx_lines.proofs.OneAnswer.{one_answer}
use Rattle.vx_lines.proofs.laws.one_answer.Goals as goal

pub returns : goal.returns
returns c = one_answer
