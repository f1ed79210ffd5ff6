-- The request of the row's fields is answered.
use Rattle.std.proofs.Common.{Some}
use Rattle.std.proofs.lemmas.Result.{IfOk-weaker}
use Rattle.vx_batch.specs.Requests.{with_texts}
use Rattle.vx_batch.proofs.replying.row_reply.Goals as goal

pub returns-in-Some : goal.returns-in-Some
returns-in-Some c =
    IfOk-weaker c.request_reply.result _ _
    (λ a answered fields row. record { asked = Some (with_texts (λ field. field.now) c.in-Some.request); is = c.in-Some.ensures fields row; answered = answered })
    c.request_reply.ensures
