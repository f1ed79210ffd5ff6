-- The places that are left decide.
use Rattle.std.proofs.Common.{◌≡◌, ◌+◌, ◌-◌, ℕ, Ordering}
use Rattle.vx_order.specs.Places.{AnswersAt, first_difference}
use Rattle.vx_order.proofs.places.compare_places.Given as goal

abbrev pub invariant-loop-i : goal.invariant-loop-i
invariant-loop-i g l =
    goal.F-IsAlwaysCallable g l.compare_at
    × ((at : ℕ → Ordering) → AnswersAt (λ i answer. goal.F-post g l.compare_at i answer) l.fn.count at → first_difference (l.fn.count - l.i) (λ k. at (l.i + k)) ≡ first_difference l.fn.count at)
