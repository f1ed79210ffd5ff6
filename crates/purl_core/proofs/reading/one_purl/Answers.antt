use Rattle.purl_core.proofs.OneValue.{one_value}
use Rattle.purl_core.proofs.reading.one_purl.Goals as goal

pub returns : goal.returns
returns c = one_value
