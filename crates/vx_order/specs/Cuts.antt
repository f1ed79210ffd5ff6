-- Texts cut at the marks of Semantic Versioning 2.0, items 9 and 10.
use Rattle.std.specs.Prelude.{ℕ, List, Option}
use Rattle.vx_spec.specs.Marks.{IsCut}
use Rattle.vx_spec.specs.Signs.{hyphen, plus}

-- the build stands behind the first '+', and the pre-release behind the first '-' of what stands before that
pub record IsCutApart (text core : List ℕ) (pre build : Option (List ℕ)) : Type 0 where
  pub front : List ℕ
  pub at_plus : IsCut plus text front build
  pub at_hyphen : IsCut hyphen front core pre
