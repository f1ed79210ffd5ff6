-- VERS, "<version-constraint>": the list of constraints of spans that are in order and apart. A span that goes from
-- before to after one order class gives `=`, with the version of its lower cut. Two spans whose gap goes from before to
-- after one order class give `!=`, with the version of the upper cut of the first. Every other cut gives a constraint
-- of its own, with its version: a lower cut `>=` where it stands before that version, and `>` behind it; an upper cut
-- `<` before it, and `<=` behind it. So the span of every version gives the empty list.
use Rattle.std.specs.Prelude.{Bool, true, false, not, ◌&&◌, cond, List, [], ◌∷◌}
use Rattle.std.specs.declared.cmp.Ordering.{Ordering}
use Rattle.std.specs.Ordering.{is_eq}
use Rattle.vx_scheme.specs.declared.span.Cut.{Cut}
use Rattle.vx_scheme.specs.declared.span.Span.{Span}
use Rattle.vx_scheme.specs.Cuts.{cuts_of, starts_of}
use Rattle.vx_vers.specs.declared.constraints.Comparator.{Comparator}
use Rattle.vx_vers.specs.declared.constraints.Comparator.TheVariants.{Equal as EqualTo, NotEqual as NotEqualTo, Less as LessThan, LessEqual as AtMost, Greater as GreaterThan, GreaterEqual as AtLeast}
use Rattle.vx_vers.specs.declared.constraints.Constraint.{Constraint}

-- the comparator of a cut, by whether it ends a span or begins one, and stands after its version or before it
abbrev pub bound : Bool → Bool → Comparator
bound false false = AtLeast
bound false true = GreaterThan
bound true false = LessThan
bound true true = AtMost

-- the comparator of one order class: a gap between spans, or a span
abbrev pub exact : Bool → Comparator
exact false = EqualTo
exact true = NotEqualTo

-- a constraint with the version of a cut
abbrev pub with : {V : Type 0} → Comparator → Cut V → Constraint V
with comparator cut = record { comparator = comparator; version = cut.version }

module _ {V : Type 0} (order : V → V → Ordering) where
  -- the two cuts go from before to after one order class
  abbrev pub is_class : Cut V → Cut V → Bool
  is_class c d = not c.after && (d.after && is_eq (order c.version d.version))

  -- the constraints of the cuts that are left, where `inside` says whether the piece below them is in a span
  abbrev pub listed : Bool → List (Cut V) → List (Constraint V)
  listed inside [] = []
  listed inside (c ∷ []) = with (bound inside c.after) c ∷ []
  listed inside (c ∷ d ∷ cuts) = cond (is_class c d) (with (exact inside) c ∷ listed inside cuts) (with (bound inside c.after) c ∷ listed (not inside) (d ∷ cuts))

  -- the list of the spans
  abbrev pub list_of : List (Span V) → List (Constraint V)
  list_of spans = listed (starts_of spans) (cuts_of spans)
