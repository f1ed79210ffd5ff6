-- VERS, "Checking if a version is contained within a range", as a set: the cuts of a sorted list of constraints at
-- which its meaning changes. A constraint of a range has one cut: before its version for `>=` and `<`, after it for `>`
-- and `<=`. `=` and `!=` have two, before and after their version. A cut stays where the piece below it is in and the
-- piece above it is not, or the other way round.
use Rattle.std.specs.Prelude.{ℕ, ◌+◌, Bool, true, false, ◌||◌, List, [], ◌∷◌}
use Rattle.std.specs.List.{list_all}
use Rattle.vx_scheme.specs.declared.span.Cut.{Cut}
use Rattle.vx_scheme.specs.declared.span.Span.{Span}
use Rattle.vx_scheme.specs.Cuts.{spans_of}
use Rattle.vx_line.specs.Line.{emit}
use Rattle.vx_vers.specs.declared.constraints.Comparator.{Comparator}
use Rattle.vx_vers.specs.declared.constraints.Comparator.TheVariants.{Equal as EqualTo, NotEqual as NotEqualTo, Less as LessThan, LessEqual as AtMost, Greater as GreaterThan, GreaterEqual as AtLeast}
use Rattle.vx_vers.specs.declared.constraints.Constraint.{Constraint}
use Rattle.vx_vers.specs.Meaning.{Kind, point, hole, opening, closing, kind, is_hole, opens_next, closes_first}

-- `>` and `<=` cut after their version
abbrev pub cuts_after : Comparator → Bool
cuts_after EqualTo = false
cuts_after NotEqualTo = false
cuts_after LessThan = false
cuts_after AtMost = true
cuts_after GreaterThan = true
cuts_after AtLeast = false

-- the cut before or after the version of a constraint, whose number is the mark
abbrev pub cut_at : {V : Type 0} → ℕ → Bool → Constraint V → Cut V
cut_at number after c = record { version = c.version; after = after; mark = number }

-- The piece in front of the constraints that are left is in: the last cut before it opens, the first one behind it
-- closes, or the whole list has nothing but `!=`.
abbrev pub is_piece_in : {V : Type 0} → Bool → Bool → List (Constraint V) → Bool
is_piece_in holes before list = (before || closes_first kind list false) || holes

-- the cuts of one constraint, where `x` says whether the piece in front of it is in, and `y` the piece behind it
abbrev pub edges_at : {V : Type 0} → Kind → Bool → Bool → ℕ → Constraint V → List (Cut V) → List (Cut V)
edges_at point x y number c rest = emit x true (cut_at number false c) (emit true y (cut_at number true c) rest)
edges_at hole x y number c rest = emit x false (cut_at number false c) (emit false y (cut_at number true c) rest)
edges_at opening x y number c rest = emit x y (cut_at number (cuts_after c.comparator) c) rest
edges_at closing x y number c rest = emit x y (cut_at number (cuts_after c.comparator) c) rest

-- The cuts of the constraints that are left, the first of which has this number. `holes` says whether the whole list
-- has nothing but `!=`, and `before` whether the last cut in front opens.
abbrev pub edges : {V : Type 0} → Bool → Bool → ℕ → List (Constraint V) → List (Cut V)
edges holes before number [] = []
edges holes before number (c ∷ list) =
    edges_at (kind c) (is_piece_in holes before (c ∷ list)) (is_piece_in holes (opens_next before (kind c)) list) number c
    (edges holes (opens_next before (kind c)) (number + 1) list)

-- the whole list has nothing but `!=`
abbrev pub all_holes : {V : Type 0} → List (Constraint V) → Bool
all_holes list = list_all (λ c. is_hole (kind c)) list

-- the piece below every constraint of the list is in
abbrev pub starts_in : {V : Type 0} → List (Constraint V) → Bool
starts_in list = is_piece_in (all_holes list) false list

-- the cuts of a list, whose constraints are numbered from 1
abbrev pub edges_of : {V : Type 0} → List (Constraint V) → List (Cut V)
edges_of list = edges (all_holes list) false 1 list

-- the spans of a list
abbrev pub spans_of_list : {V : Type 0} → List (Constraint V) → List (Span V)
spans_of_list list = spans_of (starts_in list) (edges_of list)
