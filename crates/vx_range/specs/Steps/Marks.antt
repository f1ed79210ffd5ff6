-- The marks behind groups of constructs.
use Rattle.std.specs.Prelude.{ℕ, List, [], ◌∷◌}
use Rattle.vx_scheme.specs.declared.span.Span.{Span}
use Rattle.vx_range.specs.Making.{marks_behind}

abbrev pub marks_behind_all : {V C : Type 0} → (ℕ → C → List (Span V)) → ℕ → List (List C) → ℕ
marks_behind_all spans mark [] = mark
marks_behind_all spans mark (group ∷ all) = marks_behind_all spans (marks_behind spans mark group) all
