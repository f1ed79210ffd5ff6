use Rattle.cargo_range.specs.Laws.Tables.{table_says}
use Rattle.cargo_range.proofs.laws.comparator_is_its_span.Goals as goal

pub returns : goal.returns
returns c = λ mark comparator v release. table_says comparator.operator mark comparator.partial v release
