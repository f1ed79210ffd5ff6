-- The normal text of a version after Semantic Versioning 2.0, items 2, 9 and 10: the three numbers, and the pre-release behind its
-- `-` where there is one. It leaves the build out.
use Rattle.std.specs.Prelude.{ℕ, List}
use Rattle.semver.specs.Parse.{Parts}
use Rattle.semver.specs.Identifiers.{parts_text}
use Rattle.cargo_range.specs.Version.{without_build}

abbrev pub normal : Parts → List ℕ
normal v = parts_text (without_build v)
