-- The text of spans in the notation of the POM Reference, "Dependency Version Requirement Specification", and of NuGet's "Package
-- versioning", "Version ranges": one bracket for each span, the same in each domain. Which text is printed is this project's own.
-- Versions are normal texts. `lists` says that a text may list brackets; where it may not, the first gap between spans is refused.
use Rattle.std.specs.Prelude.{◌++◌, ℕ, Bool, true, false, List, [], ◌∷◌, codes, if◌then◌else◌, Option, Some, None, Result, Ok, Err}
use Rattle.std.specs.declared.cmp.Ordering.{Ordering}
use Rattle.vx_scheme.specs.declared.domain.Domain.{Domain}
use Rattle.vx_scheme.specs.declared.back_fault.BackFault.{BackFault}
use Rattle.vx_scheme.specs.declared.span.Cut.{Cut}
use Rattle.vx_scheme.specs.declared.span.Span.{Span}
use Rattle.vx_range.specs.Gaps.{gap_fault}
use Rattle.vx_range.specs.Spans.{is_point}

-- the cut on the same side of another version
abbrev pub at_version : {V : Type 0} → V → Cut V → Cut V
at_version version cut = record { version = version; after = cut.after; mark = cut.mark }

module _ {V : Type 0} (order : V → V → Ordering) (normal : V → List ℕ) where
  -- a lower cut before V is `[V`, one after it `(V`, and none `(`
  abbrev pub lower_text : Option (Cut V) → List ℕ
  lower_text None = codes "("
  lower_text (Some cut) = (if cut.after then codes "(" else codes "[") ++ normal cut.version

  -- an upper cut before W is `W)`, one after it `W]`, and none `)`
  abbrev pub upper_text : Option (Cut V) → List ℕ
  upper_text None = codes ")"
  upper_text (Some cut) = normal cut.version ++ (if cut.after then codes "]" else codes ")")

  -- the two bounds with a comma between them
  abbrev pub bounds_text : Option (Cut V) → Option (Cut V) → List ℕ
  bounds_text lower upper = lower_text lower ++ (codes "," ++ upper_text upper)

  -- `[V]`
  abbrev pub point_text : V → List ℕ
  point_text version = codes "[" ++ (normal version ++ codes "]")

  -- a point is written with the version of its first cut alone
  abbrev pub sides_text : Option (Cut V) → Option (Cut V) → List ℕ
  sides_text (Some lower) (Some upper) = if is_point order lower upper then point_text lower.version else bounds_text (Some lower) (Some upper)
  sides_text (Some lower) None = bounds_text (Some lower) None
  sides_text None upper = bounds_text None upper

  abbrev pub span_text : Span V → List ℕ
  span_text span = sides_text span.lower span.upper

  -- The bracket of a span behind a gap, which begins at this cut: behind a hole of one order class it is written with the
  -- version of the hole's first cut.
  abbrev pub text_behind : Option (Cut V) → Option (Cut V) → Option (Cut V) → List ℕ
  text_behind (Some start) (Some lower) upper = if is_point order start lower then bounds_text (Some (at_version start.version lower)) upper else sides_text (Some lower) upper
  text_behind (Some start) None upper = sides_text None upper
  text_behind None lower upper = sides_text lower upper

  -- the brackets of the spans behind one that ends at this cut, with a comma before each
  abbrev pub others_text : Option (Cut V) → List (Span V) → List ℕ
  others_text end [] = []
  others_text end (span ∷ spans) = codes "," ++ (text_behind end span.lower span.upper ++ others_text span.upper spans)

  -- the brackets with a comma between each two
  abbrev pub spans_text : List (Span V) → List ℕ
  spans_text [] = []
  spans_text (span ∷ spans) = span_text span ++ others_text span.upper spans

  -- one bracket, or the refusal of the first gap
  abbrev pub one_text : List (Span V) → Result (List ℕ) BackFault
  one_text [] = Ok []
  one_text (span ∷ []) = Ok (span_text span)
  one_text (span ∷ next ∷ spans) = Err (gap_fault order span.upper next.lower)

  -- the text of the spans, or its first refusal
  abbrev pub back : Bool → Domain → List (Span V) → Result (List ℕ) BackFault
  back true domain spans = Ok (spans_text spans)
  back false domain spans = one_text spans
