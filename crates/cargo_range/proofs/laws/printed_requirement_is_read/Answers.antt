use Rattle.cargo_range.specs.Laws.Printed.{printed_is_read, printed_reads}
use Rattle.cargo_range.proofs.laws.printed_requirement_is_read.Goals as goal

pub returns : goal.returns
returns c = record { read = printed_is_read; reads = printed_reads }
