-- How many constructs a text of PyPI has: each piece of its comma list is one.
use Rattle.std.specs.Prelude.{ℕ, List}
use Rattle.vx_range.specs.Sizes as sizes
use Rattle.pep440_range.specs.Reading.{IsCut, ReadsAs}

-- the text has n constructs
abbrev pub HasConstructs : List ℕ → ℕ → Type 0
HasConstructs text n = sizes.HasConstructs IsCut ReadsAs text n
