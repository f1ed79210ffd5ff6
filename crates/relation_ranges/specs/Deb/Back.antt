-- The text of spans in Debian's range language, Debian Policy, 7.1: the text of the terms whose relations have the spans' cuts as
-- bounds. Which text is printed is this project's own.
use Rattle.std.specs.Prelude.{ℕ, List, [], ◌∷◌, ◌++◌, if◌then◌else◌, Option, Some, None, Result, Ok}
use Rattle.vx_scheme.specs.declared.domain.Domain.{Domain}
use Rattle.vx_scheme.specs.declared.back_fault.BackFault.{BackFault}
use Rattle.vx_scheme.specs.declared.span.Cut.{Cut}
use Rattle.vx_scheme.specs.declared.span.Span.{Span}
use Rattle.vx_range.specs.Spans.{is_point}
use Rattle.deb_scheme.specs.Version.{Fields}
use Rattle.deb_scheme.specs.Order.{order_of}
use Rattle.deb_scheme.specs.Writing.{normal}
use Rattle.relation_ranges.specs.declared.comparison.Comparison.TheVariants.{Greater}
use Rattle.relation_ranges.specs.Written as written
use Rattle.relation_ranges.specs.Bounds as bounds
use Rattle.relation_ranges.specs.Bounds.{bound_term, span_terms, upper_comparison}
use Rattle.relation_ranges.specs.Deb.Operators.{signs_of}
use Rattle.relation_ranges.specs.Deb.Reading.{DebRelation}

-- ---- texts

-- the operator, a space and the text of the version
abbrev pub relation_text : DebRelation → List ℕ
relation_text = written.relation_text signs_of normal

-- the relations with a bar between each two
abbrev pub term_text : List DebRelation → List ℕ
term_text = written.term_text signs_of normal

-- the terms with a comma between each two
abbrev pub range_text : List (List DebRelation) → List ℕ
range_text = written.range_text signs_of normal

-- ---- terms

-- a lower cut before V is `>= V`, one after it `>> V`
abbrev pub lower_relation : Cut Fields → DebRelation
lower_relation = bounds.lower_relation (λ c. c)

-- an upper cut before W is `<< W`, one after it `<= W`
abbrev pub upper_relation : Cut Fields → DebRelation
upper_relation = bounds.upper_relation (λ c. c)

-- the relation of a bound, where there is one
abbrev pub bound : (Cut Fields → DebRelation) → Option (Cut Fields) → List DebRelation
bound relation_of None = []
bound relation_of (Some cut) = relation_of cut ∷ []

-- the upper bound of a span: of a point of one order class it is written with the version of the first cut
abbrev pub upper_end : Option (Cut Fields) → Cut Fields → DebRelation
upper_end None upper = upper_relation upper
upper_end (Some lower) upper = if is_point order_of lower upper then record { operator = upper_comparison upper.after; version = lower.version } else upper_relation upper

-- the lower bound behind a gap: a hole of one order class is written with one version, that of its first cut
abbrev pub gap_end : Cut Fields → Cut Fields → DebRelation
gap_end upper lower = if is_point order_of upper lower then record { operator = Greater; version = upper.version } else lower_relation lower

-- the term of a gap behind a span with these cuts: its upper bound, or the lower bound behind the gap
abbrev pub gap_term : Option (Cut Fields) → Option (Cut Fields) → Option (Cut Fields) → List DebRelation
gap_term before None lower = bound lower_relation lower
gap_term before (Some upper) None = upper_end before upper ∷ []
gap_term before (Some upper) (Some lower) = upper_end before upper ∷ gap_end upper lower ∷ []

-- the term of the upper bound of a span, where there is one
abbrev pub last_terms : Option (Cut Fields) → Option (Cut Fields) → List (List DebRelation)
last_terms before None = []
last_terms before (Some upper) = (upper_end before upper ∷ []) ∷ []

-- behind a span with these cuts: a term for each gap, then one for the last upper bound
abbrev pub terms_behind : Option (Cut Fields) → Option (Cut Fields) → List (Span Fields) → List (List DebRelation)
terms_behind before upper [] = last_terms before upper
terms_behind before upper (span ∷ spans) = gap_term before upper span.lower ∷ terms_behind span.lower span.upper spans

-- the terms of spans: of a single one `= V` of a point, and else its bounds; of several the first lower bound, a term for each
-- gap, and the last upper bound
abbrev pub back_terms : List (Span Fields) → List (List DebRelation)
back_terms [] = []
back_terms (span ∷ []) = span_terms (λ c. c) order_of span.lower span.upper
back_terms (span ∷ next ∷ spans) = bound_term lower_relation span.lower ++ terms_behind span.lower span.upper (next ∷ spans)

-- the text of spans, the same in each domain
abbrev pub back : Domain → List (Span Fields) → Result (List ℕ) BackFault
back domain spans = Ok (range_text (back_terms spans))
