use Rattle.std.proofs.Common.{subst}
use Rattle.purl_core.specs.Grammar.{IsPurlWritten, Parts, WithType}
use Rattle.purl_core.proofs.reading.read.Goals as goal

pub returns-in-Err-Name : goal.returns-in-Err-Name
returns-in-Err-Name c = subst (λ t. WithType t × ((p : Parts) → ¬ (IsPurlWritten t p))) c.as_bytes.ensures.value (rw c.in-Err-Name.field-0-is at c.in-Err-Name.ensures)
