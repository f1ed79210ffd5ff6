-- The joined spans of bounds: this project's own.
use Rattle.std.specs.Prelude.{◌≡◌, ℕ, false, Some, List, [], ◌∷◌, ◌++◌}
use Rattle.std.specs.List.{AllByRecursion}
use Rattle.std.specs.declared.cmp.Ordering.{Ordering}
use Rattle.vx_spec.specs.Ascending.{IsAscending}
use Rattle.vx_scheme.specs.declared.span.Cut.{Cut}
use Rattle.vx_scheme.specs.declared.span.Span.{Span}
use Rattle.vx_scheme.specs.Cuts.{cut_cmp, cuts_of, spans_of, spans_at, bounds_at, IsInOrder}
use Rattle.vx_line.specs.Line.{judged}
use Rattle.vx_line.specs.Least.{first_least}
use Rattle.vx_interval.specs.Places.{AtEachPlace}

-- the cuts of an alternative, read from left to right, lower before upper
abbrev pub terms_cuts : {V : Type 0} → List (List (Span V)) → List (Cut V)
terms_cuts [] = []
terms_cuts (term ∷ terms) = cuts_of term ++ terms_cuts terms

-- the made cuts: those of the bounds, read from left to right, lower before upper
abbrev pub made_cuts : {V : Type 0} → List (List (List (Span V))) → List (Cut V)
made_cuts [] = []
made_cuts (terms ∷ bounds) = terms_cuts terms ++ made_cuts bounds

-- the mark of a cut
abbrev pub mark_of : {V : Type 0} → Cut V → ℕ
mark_of cut = cut.mark

-- of the made cuts that are order-equal to it, the cut has the least mark, and is the first of those that have that mark
abbrev pub IsLeastOf : {V : Type 0} → (V → V → Ordering) → List (Cut V) → Cut V → Type 0
IsLeastOf order made cut = first_least mark_of (cut_cmp order) cut made ≡ Some cut

-- The joined spans of bounds: a piece of the line is in one of them where in some alternative every term has a span
-- that covers it; they are in order and apart, so that each is a whole run of neighbouring pieces that are in; and
-- each of their cuts is the least of the made cuts order-equal to it.
pub record IsJoined {V : Type 0} (order : V → V → Ordering) (bounds : List (List (List (Span V)))) (spans : List (Span V)) : Type 0 where
  pub pieces : AtEachPlace order (λ below. spans_at below spans ≡ bounds_at below bounds)
  pub in_order : IsInOrder order spans
  pub carried : AllByRecursion (IsLeastOf order (made_cuts bounds)) (cuts_of spans)

-- The line of some cuts: one cut of each order class, in order, and the least of it.
pub record IsLine {V : Type 0} (order : V → V → Ordering) (made line : List (Cut V)) : Type 0 where
  pub in_order : IsAscending (cut_cmp order) line
  pub least : (cut : Cut V) → first_least mark_of (cut_cmp order) cut line ≡ first_least mark_of (cut_cmp order) cut made

-- The spans that come of judging each piece between neighbouring cuts of a line: that below all cuts, and that
-- directly above each.
abbrev pub judged_spans : {V : Type 0} → (V → V → Ordering) → List (List (List (Span V))) → List (Cut V) → List (Span V)
judged_spans order bounds line =
    spans_of (bounds_at (λ cut. false) bounds) (judged (cut_cmp order) (λ below. bounds_at below bounds) (bounds_at (λ cut. false) bounds) line)
