-- Only null letters at the end are gone.
use Rattle.std.proofs.Common.{◌≡◌, length}
use Rattle.maven_scheme.specs.Steps.Nulls.{without_null_end}
use Rattle.maven_scheme.proofs.letters.drop_nulls.Given as goal

abbrev pub invariant-nulls : goal.invariant-nulls
invariant-nulls l = without_null_end l.letters ≡ without_null_end l.fn.letters

abbrev pub decreases-nulls : goal.decreases-nulls
decreases-nulls l = length l.letters
