-- The text of a version: what `semver` reads, after the grammar of Semantic Versioning 2.0.
use Rattle.std.specs.Prelude.{◌≡◌, ℕ, List, Ok}
use Rattle.semver.specs.Parse.{Parts, version_parts}

-- `semver` reads the text as the version
abbrev pub Spells : List ℕ → Parts → Type 0
Spells text v = version_parts text ≡ Ok v
