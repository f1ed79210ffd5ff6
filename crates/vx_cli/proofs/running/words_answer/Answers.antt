-- The request of the words is answered.
use Rattle.std.proofs.Common.{Some, inr, arith}
use Rattle.std.proofs.lemmas.Result.{IfOk-weaker}
use Rattle.vx_cli.proofs.running.words_answer.Goals as goal

pub returns-else-joined_length-gt-MOST_BYTES : goal.returns-else-joined_length-gt-MOST_BYTES
returns-else-joined_length-gt-MOST_BYTES c =
    IfOk-weaker c.answer_to_request.result _ _ (λ a answered. inr (omega (arith, c.joined_length.ensures, c.if-joined_length-gt-MOST_BYTES.false), record { asked = Some _; is = c.requires; answered = answered })) c.answer_to_request.ensures
