-- How many constructs a text of brackets has: each bracket is one, and so is a version alone.
use Rattle.std.specs.Prelude.{ℕ, Bool, List}
use Rattle.vx_range.specs.Sizes as sizes
use Rattle.bracket_ranges.specs.declared.bracket.Bracket.{Bracket}
use Rattle.bracket_ranges.specs.Cutting.{IsCut}
use Rattle.bracket_ranges.specs.Reading.{ReadsAs}

module _ {V : Type 0} (lists : Bool) (alone : V → Bracket V) (Spells : List ℕ → V → Type 0) where
  -- the text has n brackets
  abbrev pub HasConstructs : List ℕ → ℕ → Type 0
  HasConstructs text n = sizes.HasConstructs (IsCut lists) (ReadsAs Spells alone) text n
