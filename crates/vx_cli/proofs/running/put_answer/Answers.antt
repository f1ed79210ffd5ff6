use Rattle.std.proofs.Common.{inr}
use Rattle.vx_cli.proofs.running.put_answer.Goals as goal

pub returns-in-Ok-clause-front : goal.returns-in-Ok-clause-front
returns-in-Ok-clause-front g c =
    inr (record { ok = c.in-Ok.answer.ok; text = c.in-Ok.answer.text; is = c.in-Ok.is; grown = c.put_line.ensures.front })
