use Rattle.purl_core.proofs.OneRefusal.{one_refusal}
use Rattle.purl_core.proofs.reading.one_refusal.Goals as goal

pub returns : goal.returns
returns c = one_refusal
