use Rattle.vx_vers.proofs.HeadLaws.{head_front, no_slash, uncut}
use Rattle.vx_vers.proofs.naming.cut_any_head.Goals as goal

pub returns-in_default-clause-head : goal.returns-in_default-clause-head
returns-in_default-clause-head c = λ name is.
    let cut = rw c.in_default.is at c.cut.ensures in no_slash c.args.text.now (uncut cut) name is.0 is.1

pub returns-in-None-clause-head : goal.returns-in-None-clause-head
returns-in-None-clause-head c = λ name is.
    let cut = rw c.in-Some.is at c.cut.ensures in
    c.in-None.ensures name (head_front c.args.text.now c.cut.result.0.now c.in-Some.rest.now is.0 name cut.joined cut.first is.1)
