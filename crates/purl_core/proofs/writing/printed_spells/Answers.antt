use Rattle.purl_core.proofs.Printed.{printed, one_printed}
use Rattle.purl_core.proofs.writing.printed_spells.Goals as goal

pub returns : goal.returns
returns c = record { spells = printed; one = one_printed }
