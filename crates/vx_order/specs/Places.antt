-- Rows compared place by place.
use Rattle.std.specs.Prelude.{◌≡◌, ◌<◌, ℕ, zero, suc}
use Rattle.std.specs.Ordering.{ordering_then}
use Rattle.std.specs.declared.cmp.Ordering.{Ordering}
use Rattle.std.specs.declared.cmp.Ordering.TheVariants.{Equal}

-- Of so many places, where each says how two rows compare there: the first that does not say `Equal` decides.
abbrev pub first_difference : ℕ → (ℕ → Ordering) → Ordering
first_difference zero at = Equal
first_difference (suc count) at = ordering_then (at 0) (first_difference count (λ i. at (suc i)))

-- At each of so many places there is one answer. (`Answers i answer` says that a comparison may give this answer at place i.)
abbrev pub AnswersAt : (ℕ → Ordering → Type 0) → ℕ → (ℕ → Ordering) → Type 0
AnswersAt Answers count at = (i : ℕ) (answer : Ordering) → i < count → Answers i answer → answer ≡ at i
