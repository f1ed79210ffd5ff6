-- A text cut at its first two dots.
use Rattle.std.specs.Prelude.{◌≡◌, List, ℕ}
use Rattle.vx_spec.specs.Marks.{Lacks}
use Rattle.vx_spec.specs.Signs.{dot}
use Rattle.npm_scheme.specs.Spelling.{core}

-- the text has two dots, and these are its parts up to the first two
pub record IsDotted (text a b c : List ℕ) : Type 0 where
  pub joined : text ≡ core a b c
  pub first : Lacks dot a
  pub second : Lacks dot b

-- the text has less than two dots
abbrev pub NotDotted : List ℕ → Type 0
NotDotted text = (a b c : List ℕ) → ¬ (IsDotted text a b c)
