use Rattle.std.proofs.Common.{map}
use Rattle.semver.specs.Identifiers.{comparator_view}
use Rattle.cargo_range.proofs.EveryForm.{every_form}
use Rattle.cargo_range.proofs.comparators.read_requirement.Goals as goal

pub constructs_of-requires : goal.constructs_of-requires
constructs_of-requires c = every_form c.args.text.now (map comparator_view c.in-Ok.requirement.comparators.items) c.in-Ok.ensures.ok
