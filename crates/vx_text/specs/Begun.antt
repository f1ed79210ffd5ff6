-- Texts that others begin.
use Rattle.std.specs.Prelude.{◌≡◌, ℕ, List, ◌++◌}

-- the text begins with the other one
pub record IsBegunBy (begin text : List ℕ) : Type 0 where
  pub rest : List ℕ
  pub joined : text ≡ begin ++ rest
