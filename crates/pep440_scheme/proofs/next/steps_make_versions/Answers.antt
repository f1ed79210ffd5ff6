use Rattle.std.proofs.Common.{refl}
use Rattle.pep440_scheme.proofs.BumpLaws.{bumped_some}
use Rattle.pep440_scheme.proofs.next.steps_make_versions.Goals as goal

pub returns-clause-bump : goal.returns-clause-bump
returns-clause-bump c = λ v is. record { release = bumped_some v.release is.release; local = refl }

pub returns-clause-next_pre : goal.returns-clause-next_pre
returns-clause-next_pre c = λ v is. record { release = is.release; local = refl }

pub returns-clause-dev0 : goal.returns-clause-dev0
returns-clause-dev0 c = λ v is. record { release = is.release; local = refl }
