-- How many constructs a requirement has: each comparator that `semver` reads is one.
use Rattle.std.specs.Prelude.{◌≡◌, ℕ, List, length}
use Rattle.cargo_range.specs.declared.construct.Construct.{Construct}
use Rattle.cargo_range.specs.Reading.{Reads}

-- the text has n comparators
abbrev pub HasConstructs : List ℕ → ℕ → Type 0
HasConstructs text n = (all : List Construct) × Reads text all × (n ≡ length all)
