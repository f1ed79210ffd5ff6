-- The operators of RubyGems' requirements, after `Gem::Requirement`.
use Rattle.std.specs.Prelude.{◌≡◌, ◌⊎◌, ◌==◌, ◌||◌, ℕ, Bool, List, [], codes}
use Rattle.relation_ranges.specs.Comparison as comparison
use Rattle.relation_ranges.specs.declared.comparison.Comparison.TheVariants.{Equal}
use Rattle.relation_ranges.specs.declared.comparison.Strict.TheVariants.{Single}
use Rattle.relation_ranges.specs.declared.gem.operators.Operator.{Operator}
use Rattle.relation_ranges.specs.declared.gem.operators.Operator.TheVariants.{Compares, NotEqual, Twiddle}

-- how an operator is written
abbrev pub signs_of : Operator → List ℕ
signs_of (Compares how) = comparison.signs_of Single how
signs_of NotEqual = codes "!="
signs_of Twiddle = codes "~>"

-- the operator is written so; `=` may be left out
abbrev pub HasSigns : Operator → List ℕ → Type 0
HasSigns operator signs = (signs ≡ signs_of operator) ⊎ ((signs ≡ []) × (operator ≡ Compares Equal))

-- '!' (33), '<' (60), '=' (61), '>' (62) or '~' (126)
abbrev pub is_sign : ℕ → Bool
is_sign b = b == 33 || b == 60 || b == 61 || b == 62 || b == 126
