-- Where a version stands against a cut, which versions spans hold, and when spans are in order and apart.
-- `order` is the order of a scheme.
use Rattle.std.specs.Prelude.{◌≡◌, Bool, true, false, not, ◌&&◌, Option, Some, None, List, [], ◌∷◌, ◌++◌}
use Rattle.std.specs.List.{list_any, list_all}
use Rattle.std.specs.Ordering.{ordering_then, bool_cmp}
use Rattle.std.specs.declared.cmp.Ordering.{Ordering}
use Rattle.std.specs.declared.cmp.Ordering.TheVariants.{Less, Equal, Greater}
use Rattle.vx_spec.specs.Ascending.{IsAscending}
use Rattle.vx_scheme.specs.declared.span.Cut.{Cut}
use Rattle.vx_scheme.specs.declared.span.Span.{Span}

-- a cut whose version compares so with a version stands below it
abbrev pub stands_below : Ordering → Bool → Bool
stands_below Less after = true
stands_below Equal after = not after
stands_below Greater after = false

-- the cut stands below the version
abbrev pub cut_below : {V : Type 0} → (V → V → Ordering) → Cut V → V → Bool
cut_below order cut v = stands_below (order cut.version v) cut.after

-- how two cuts compare: by version, and before stands below after
abbrev pub cut_cmp : {V : Type 0} → (V → V → Ordering) → Cut V → Cut V → Ordering
cut_cmp order c d = ordering_then (order c.version d.version) (bool_cmp c.after d.after)

-- What spans hold, at a place of the line that is given by which cuts stand below it.
module _ {V : Type 0} (below : Cut V → Bool) where
  -- the lower cut, if any, stands below the place
  abbrev pub is_over : Option (Cut V) → Bool
  is_over None = true
  is_over (Some cut) = below cut

  -- the upper cut, if any, does not
  abbrev pub is_under : Option (Cut V) → Bool
  is_under None = true
  is_under (Some cut) = not (below cut)

  -- the span holds the place
  abbrev pub span_at : Span V → Bool
  span_at span = is_over span.lower && is_under span.upper

  -- some span holds it
  abbrev pub spans_at : List (Span V) → Bool
  spans_at spans = list_any span_at spans

  -- every term has a span that holds it
  abbrev pub terms_at : List (List (Span V)) → Bool
  terms_at terms = list_all spans_at terms

  -- in some alternative every term has a span that holds it
  abbrev pub bounds_at : List (List (List (Span V))) → Bool
  bounds_at bounds = list_any terms_at bounds

module _ {V : Type 0} (order : V → V → Ordering) where
  -- the span holds the version
  abbrev pub in_span : Span V → V → Bool
  in_span span v = span_at (λ cut. cut_below order cut v) span

  -- some span holds the version
  abbrev pub in_spans : List (Span V) → V → Bool
  in_spans spans v = spans_at (λ cut. cut_below order cut v) spans

  -- in some alternative every term has a span that holds the version
  abbrev pub in_bounds : List (List (List (Span V))) → V → Bool
  in_bounds bounds v = bounds_at (λ cut. cut_below order cut v) bounds

-- the cut, where there is one
abbrev pub cut_list : {V : Type 0} → Option (Cut V) → List (Cut V)
cut_list None = []
cut_list (Some cut) = cut ∷ []

-- the cuts of spans, from left to right, lower before upper
abbrev pub cuts_of : {V : Type 0} → List (Span V) → List (Cut V)
cuts_of [] = []
cuts_of (span ∷ spans) = cut_list span.lower ++ (cut_list span.upper ++ cuts_of spans)

-- the cut is left out
abbrev pub is_absent : {V : Type 0} → Option (Cut V) → Bool
is_absent None = true
is_absent (Some cut) = false

-- the first span has no lower cut
abbrev pub starts_of : {V : Type 0} → List (Span V) → Bool
starts_of [] = false
starts_of (span ∷ spans) = is_absent span.lower

-- The spans between the cuts of a line: each cut begins a span or ends the one that is open. `starts` says that a
-- span is open below the first cut.
abbrev pub spans_of : {V : Type 0} → Bool → List (Cut V) → List (Span V)
spans_of false [] = []
spans_of false (c ∷ []) = record { lower = Some c; upper = None } ∷ []
spans_of false (c ∷ d ∷ cuts) = record { lower = Some c; upper = Some d } ∷ spans_of false cuts
spans_of true [] = record { lower = None; upper = None } ∷ []
spans_of true (c ∷ cuts) = record { lower = None; upper = Some c } ∷ spans_of false cuts

-- The spans are in order and apart: each lower cut is below its upper cut, and each upper cut below the next lower
-- cut; and no span but the first lacks a lower cut, and none but the last an upper cut.
pub record IsInOrder {V : Type 0} (order : V → V → Ordering) (spans : List (Span V)) : Type 0 where
  pub rising : IsAscending (cut_cmp order) (cuts_of spans)
  pub apart : spans_of (starts_of spans) (cuts_of spans) ≡ spans
