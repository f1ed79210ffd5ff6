-- A version of Cargo, after Semantic Versioning 2.0: three numbers (item 2), the text of the pre-release (item 9) and that
-- of the build (item 10), as `semver` holds them.
use Rattle.std.specs.Prelude.{◌≡◌, ◌<◌, ◌^◌, ℕ, List, []}
use Rattle.semver.specs.Parse.{Parts}
use Rattle.semver.specs.Grammar.{IsValid}

-- the pre-release
abbrev pub pre_of : Parts → List ℕ
pre_of v = v.3

-- The parts are a version's: the numbers are below 2^64, and the pre-release and the build have the grammar's form.
-- `semver` reads exactly these from some text, as the laws of texts say.
abbrev pub IsVersion : Parts → Type 0
IsVersion = IsValid

-- each number is within the limit of 64 bits
abbrev pub IsWithin : Parts → Type 0
IsWithin v = (v.0 < 2 ^ 64) × (v.1 < 2 ^ 64) × (v.2 < 2 ^ 64)

-- item 9: a version without a pre-release is a release
abbrev pub IsRelease : Parts → Type 0
IsRelease v = pre_of v ≡ []

-- a release without a build
pub record IsPlain (v : Parts) : Type 0 where
  pub version : IsVersion v
  pub pre : v.3 ≡ []
  pub build : v.4 ≡ []

-- the release `I.J.K`
abbrev pub release_of : ℕ → ℕ → ℕ → Parts
release_of major minor patch = (major, minor, patch, [], [])

-- the version without its build
abbrev pub without_build : Parts → Parts
without_build v = (v.0, v.1, v.2, v.3, [])
