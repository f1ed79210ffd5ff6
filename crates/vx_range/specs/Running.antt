-- Marks that run on: each cut has the mark behind that of the cut before it.
use Rattle.std.specs.Prelude.{◌≡◌, ◌+◌, ℕ, List, [], ◌∷◌}
use Rattle.vx_spec.specs.Each.{joined}
use Rattle.vx_scheme.specs.declared.span.Cut.{Cut}
use Rattle.vx_scheme.specs.declared.span.Span.{Span}
use Rattle.vx_scheme.specs.Cuts.{cuts_of}

-- the marks of the cuts run on from this one, without a gap
abbrev pub RunOn : {V : Type 0} → ℕ → List (Cut V) → Type 0
RunOn mark [] = Unit {0}
RunOn mark (cut ∷ cuts) = (cut.mark ≡ mark) × RunOn (mark + 1) cuts

-- so do those of the spans of each construct, from any mark
abbrev pub EachRunsOn : {V C : Type 0} → (ℕ → C → List (Span V)) → Type 0
EachRunsOn {C = C} spans = (mark : ℕ) (construct : C) → RunOn mark (cuts_of (spans mark construct))

-- so do those of all cuts of bounds, from 0
abbrev pub BoundsRunOn : {V : Type 0} → List (List (List (Span V))) → Type 0
BoundsRunOn bounds = RunOn 0 (cuts_of (joined (joined bounds)))
