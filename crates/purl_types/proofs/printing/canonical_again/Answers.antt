use Rattle.purl_types.proofs.SameLaws.{again}
use Rattle.purl_types.proofs.printing.canonical_again.Goals as goal

pub returns : goal.returns
returns c = again
