-- A text cut apart: at its first '-', and before that at its first '.'.
use Rattle.std.specs.Prelude.{ℕ, List}
use Rattle.std.specs.Option.{option_copied}
use Rattle.vx_spec.specs.Marks.{IsCut}
use Rattle.vx_spec.specs.Signs.{dot, hyphen}
use Rattle.gem_scheme.specs.declared.spelling.Written.{Written}

-- the text is cut into these parts
pub record IsApart (text : List ℕ) (w : Written) : Type 0 where
  pub front : List ℕ
  pub labels : IsCut hyphen text front (option_copied w.labels)
  pub pieces : IsCut dot front w.number.now (option_copied w.pieces)
