use Rattle.purl_core.proofs.Unspelled.{unspelled}
use Rattle.purl_core.proofs.reading.refused_is_unspelled.Goals as goal

pub returns : goal.returns
returns c = unspelled
