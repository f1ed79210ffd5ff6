use Rattle.std.proofs.Common.{ap}
use Rattle.vx_vers.specs.Steps.Reading.{constraint_of_version}
use Rattle.vx_vers.proofs.reading.push_read.Goals as goal

pub returns-in_ok-push-in-Ok-clause-ok : goal.returns-in_ok-push-in-Ok-clause-ok
returns-in_ok-push-in-Ok-clause-ok g c =
    (record { comparator = c.args.comparator; version = c.in-Ok.version }, c.in_ok-push-in-Ok.ensures.ok, ap (constraint_of_version c.args.comparator c.args.number) c.in-Ok.is)
