use Rattle.vx_batch.specs.Laws.Requests.{one_asked}
use Rattle.vx_batch.proofs.laws.one_request.Goals as goal

pub returns : goal.returns
returns c = one_asked
