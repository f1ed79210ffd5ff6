-- The test of one version against a comparator, after the Cargo book, "Specifying Dependencies": that of the comparator's
-- operator in `semver`, without the rule by which a pre-release is let through only beside a comparator that names one of its
-- numbers. On a release the two are the same. It names no end of a range.
use Rattle.std.specs.Prelude.{ℕ, Bool, List, [], Option, Some, None}
use Rattle.semver.specs.EvalViews.{view_op}
use Rattle.semver.specs.Parse.{Held, Parts}
use Rattle.semver.specs.declared.Op.{Op}
use Rattle.cargo_range.specs.declared.construct.Partial.{Partial}
use Rattle.cargo_range.specs.declared.construct.Partial.TheVariants.{Major, Minor, Full}
use Rattle.cargo_range.specs.declared.construct.Construct.{Construct}

-- the numbers and the pre-release that a comparator names
abbrev pub major_of : Partial → ℕ
major_of (Major major) = major
major_of (Minor major minor) = major
major_of (Full version) = version.0

abbrev pub minor_of : Partial → Option ℕ
minor_of (Major major) = None
minor_of (Minor major minor) = Some minor
minor_of (Full version) = Some version.1

abbrev pub patch_of : Partial → Option ℕ
patch_of (Major major) = None
patch_of (Minor major minor) = None
patch_of (Full version) = Some version.2

abbrev pub pre_release_of : Partial → List ℕ
pre_release_of (Major major) = []
pre_release_of (Minor major minor) = []
pre_release_of (Full version) = version.3

-- the comparator as `semver` holds it
abbrev pub held_by : Op → Partial → Held
held_by operator partial = (operator, major_of partial, minor_of partial, patch_of partial, pre_release_of partial)

abbrev pub held_of : Construct → Held
held_of construct = held_by construct.operator construct.partial

-- the comparator's operator holds of the version
abbrev pub holds : Construct → Parts → Bool
holds construct v = view_op construct.operator (held_of construct) v
