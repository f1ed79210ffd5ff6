-- What stands in front of a number of a release and of a part of a label.
use Rattle.std.specs.Prelude.{◌==◌, if◌then◌else◌, ℕ, List, [], ◌∷◌}
use Rattle.vx_spec.specs.Signs.{dot, plus}

-- nothing stands before the first number of a release, and '.' before each other
abbrev pub dot_before : ℕ → List ℕ
dot_before i = if i == 0 then [] else dot ∷ []

-- '+' stands before the first part of a label, and '.' before each other
abbrev pub sign_before : ℕ → ℕ
sign_before i = if i == 0 then plus else dot
