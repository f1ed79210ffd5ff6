-- Where the first `||` begins.
use Rattle.std.specs.Prelude.{◌&&◌, ℕ, suc, List, [], ◌∷◌, if◌then◌else◌}
use Rattle.vx_spec.specs.Runs.{begins}
use Rattle.npm_range.specs.Cutting.{is_bar}

-- how many bytes stand before the first `||`, and all where there is none
abbrev pub before_bars : List ℕ → ℕ
before_bars [] = 0
before_bars (b ∷ text) = if is_bar b && begins is_bar text then 0 else suc (before_bars text)
