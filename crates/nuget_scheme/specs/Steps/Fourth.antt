-- What is written of the fourth number.
use Rattle.std.specs.Prelude.{◌==◌, if◌then◌else◌, ℕ, List, [], ◌∷◌}
use Rattle.vx_spec.specs.Numerals.{numeral_text}
use Rattle.vx_spec.specs.Signs.{dot}

-- nothing where it is 0
abbrev pub fourth_text : ℕ → List ℕ
fourth_text n = if n == 0 then [] else (dot ∷ numeral_text n)
