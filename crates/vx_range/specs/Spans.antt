-- Spans that constructs make of versions, with running marks; and points, over any order.
use Rattle.std.specs.Prelude.{◌+◌, ◌&&◌, not, ℕ, Bool, true, false, List, [], ◌∷◌, Option, Some, None}
use Rattle.std.specs.Ordering.{is_eq}
use Rattle.std.specs.declared.cmp.Ordering.{Ordering}
use Rattle.vx_scheme.specs.declared.span.Cut.{Cut}
use Rattle.vx_scheme.specs.declared.span.Span.{Span}

module _ {V : Type 0} where
  -- the cut directly before a version
  abbrev pub before : ℕ → V → Option (Cut V)
  before mark version = Some (record { version = version; after = false; mark = mark })

  -- the cut directly after a version
  abbrev pub after : ℕ → V → Option (Cut V)
  after mark version = Some (record { version = version; after = true; mark = mark })

  -- every version
  abbrev pub every : List (Span V)
  every = record { lower = None; upper = None } ∷ []

  -- `[V, V]`
  abbrev pub point : ℕ → V → List (Span V)
  point mark version = record { lower = before mark version; upper = after (mark + 1) version } ∷ []

  -- `[V, -)`
  abbrev pub from : ℕ → V → List (Span V)
  from mark version = record { lower = before mark version; upper = None } ∷ []

  -- `(V, -)`
  abbrev pub above : ℕ → V → List (Span V)
  above mark version = record { lower = after mark version; upper = None } ∷ []

  -- `(-, V)`
  abbrev pub below : ℕ → V → List (Span V)
  below mark version = record { lower = None; upper = before mark version } ∷ []

  -- `(-, V]`
  abbrev pub up_to : ℕ → V → List (Span V)
  up_to mark version = record { lower = None; upper = after mark version } ∷ []

  -- `[V, W)`
  abbrev pub between : ℕ → V → V → List (Span V)
  between mark version end = record { lower = before mark version; upper = before (mark + 1) end } ∷ []

  -- `[V, W]`
  abbrev pub closed : ℕ → V → V → List (Span V)
  closed mark version end = record { lower = before mark version; upper = after (mark + 1) end } ∷ []

-- the cuts stand before and after one order class
abbrev pub is_point : {V : Type 0} → (V → V → Ordering) → Cut V → Cut V → Bool
is_point order lower upper = (not lower.after && upper.after) && is_eq (order lower.version upper.version)
