use Rattle.purl_core.proofs.Valid.{valid}
use Rattle.purl_core.proofs.reading.spelled_is_valid.Goals as goal

pub returns : goal.returns
returns c = valid
