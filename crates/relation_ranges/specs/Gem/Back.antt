-- The text of spans in RubyGems' range language (`Gem::Requirement`): the bounds of all together, and `!= V` for each hole. Which
-- text is printed is this project's own.
use Rattle.std.specs.Prelude.{ℕ, List, [], ◌∷◌, ◌++◌, if◌then◌else◌, Option, Some, None, Result, Ok, Err}
use Rattle.vx_scheme.specs.declared.domain.Domain.{Domain}
use Rattle.vx_scheme.specs.declared.back_fault.BackFault.{BackFault}
use Rattle.vx_scheme.specs.declared.back_fault.BackFault.TheVariants.{NotOneInterval}
use Rattle.vx_scheme.specs.declared.span.Cut.{Cut}
use Rattle.vx_scheme.specs.declared.span.Span.{Span}
use Rattle.gem_scheme.specs.Version.{Fields}
use Rattle.gem_scheme.specs.Order.{order_of}
use Rattle.gem_scheme.specs.Writing.{normal}
use Rattle.relation_ranges.specs.declared.gem.operators.Operator.TheVariants.{Compares, NotEqual}
use Rattle.relation_ranges.specs.Written as written
use Rattle.relation_ranges.specs.Bounds as bounds
use Rattle.vx_range.specs.Gaps.{is_hole, mark_of}
use Rattle.relation_ranges.specs.Gem.Operators.{signs_of}
use Rattle.relation_ranges.specs.Gem.Reading.{GemRelation}

-- the requirements with a comma between each two
abbrev pub range_text : List (List GemRelation) → List ℕ
range_text = written.range_text signs_of normal

-- a hole is written with one version, that of its first cut
abbrev pub hole_term : Option (Cut Fields) → List (List GemRelation)
hole_term None = []
hole_term (Some upper) = (record { operator = NotEqual; version = upper.version } ∷ []) ∷ []

-- one term for each gap
abbrev pub hole_terms : List (Span Fields) → List (List GemRelation)
hole_terms [] = []
hole_terms (span ∷ []) = []
hole_terms (span ∷ next ∷ spans) = hole_term span.upper ++ hole_terms (next ∷ spans)

-- the upper cut of the last span
abbrev pub last_upper : Span Fields → List (Span Fields) → Option (Cut Fields)
last_upper span [] = span.upper
last_upper span (next ∷ spans) = last_upper next spans

-- the terms of spans: of a single one `= V` of a point, and else its bounds; of several the first lower bound, the last
-- upper bound, and the holes
abbrev pub back_terms : List (Span Fields) → List (List GemRelation)
back_terms [] = []
back_terms (span ∷ []) = bounds.span_terms Compares order_of span.lower span.upper
back_terms (span ∷ next ∷ spans) = bounds.bound_terms Compares span.lower (last_upper next spans) ++ hole_terms (span ∷ next ∷ spans)

-- the mark behind the first gap that is no hole
abbrev pub first_gap : List (Span Fields) → Option ℕ
first_gap [] = None
first_gap (span ∷ []) = None
first_gap (span ∷ next ∷ spans) = if is_hole order_of span.upper next.lower then first_gap (next ∷ spans) else Some (mark_of next.lower)

-- the text of the terms, unless a gap is no hole
abbrev pub text_unless : Option ℕ → List (List GemRelation) → Result (List ℕ) BackFault
text_unless None terms = Ok (range_text terms)
text_unless (Some mark) terms = Err (NotOneInterval mark)

-- the text of spans, the same in each domain, or the refusal at the first gap that is no hole
abbrev pub back : Domain → List (Span Fields) → Result (List ℕ) BackFault
back domain spans = text_unless (first_gap spans) (back_terms spans)
