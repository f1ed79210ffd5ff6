-- How many constructs a text of npm has: each piece of an alternative is one, and a hyphen range, which has two sides, is one.
use Rattle.std.specs.Prelude.{◌≡◌, ℕ, List, sum_by}
use Rattle.vx_spec.specs.Each.{joined}
use Rattle.vx_range.specs.Pieces.{Written}
use Rattle.vx_range.specs.Reading.{ReadsGroups}
use Rattle.npm_range.specs.declared.cutting.Kind.{Kind}
use Rattle.npm_range.specs.declared.cutting.Kind.TheVariants.{Plain, Low, High}
use Rattle.npm_range.specs.declared.construct.Construct.{Construct}
use Rattle.npm_range.specs.Cutting.{IsCut}
use Rattle.npm_range.specs.Reading.{ReadsAs}

-- a piece counts as one construct; of the two sides of a hyphen range the lower one does
abbrev pub counted : Kind → ℕ
counted Plain = 1
counted Low = 1
counted High = 0

-- how many constructs the pieces of groups are
abbrev pub construct_count : List (List (Written Kind)) → ℕ
construct_count groups = sum_by (λ piece. counted piece.kind) (joined groups)

-- The text has n constructs: it has a reading, and its pieces are n constructs.
pub record HasConstructs (text : List ℕ) (n : ℕ) : Type 0 where
  pub groups : List (List (Written Kind))
  pub cut : IsCut text groups
  pub all : List (List Construct)
  pub each : ReadsGroups ReadsAs groups all
  pub count : n ≡ construct_count groups
