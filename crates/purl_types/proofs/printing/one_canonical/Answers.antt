use Rattle.purl_types.proofs.SameLaws.{canonical_same, one_text}
use Rattle.purl_types.proofs.printing.one_canonical.Goals as goal

pub returns : goal.returns
returns c = record { values = canonical_same; texts = one_text }
