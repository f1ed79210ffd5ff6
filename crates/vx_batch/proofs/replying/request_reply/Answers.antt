use Rattle.vx_batch.proofs.replying.request_reply.Goals as goal

pub returns-in-Check : goal.returns-in-Check
returns-in-Check c = rw c.in-Check.is c.check_reply.ensures

pub returns-in-Has : goal.returns-in-Has
returns-in-Has c = rw c.in-Has.is c.has_reply.ensures
