-- The line of the reply is appended.
use Rattle.vx_batch.specs.Steps.Replies.{reply_line}
use Rattle.vx_batch.proofs.batching.LineAnswersAnswering.answer.Goals as goal

pub returns : goal.returns
returns c = (reply_line c.in_ok-reply.reply, rw c.is_accepted.ensures c.in_ok-reply.ensures, c.in_ok-push_reply.ensures)
