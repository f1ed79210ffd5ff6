-- How many constructs a text of relations has: each relation is one.
use Rattle.std.specs.Prelude.{ℕ, Bool, List, Option}
use Rattle.vx_range.specs.Sizes as sizes
use Rattle.relation_ranges.specs.Reading.{IsCut, ReadsAs}

module _ {O V : Type 0} (bar : Option ℕ) (is_sign : ℕ → Bool) (HasSigns : O → List ℕ → Type 0) (Spells : List ℕ → V → Type 0) where
  -- the text has n relations
  abbrev pub HasConstructs : List ℕ → ℕ → Type 0
  HasConstructs text n = sizes.HasConstructs (IsCut bar) (ReadsAs is_sign HasSigns Spells) text n
