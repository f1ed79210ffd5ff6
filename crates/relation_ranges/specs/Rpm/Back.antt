-- The text of spans in RPM's range language: the cuts are moved to where the domain has its versions, and what is then left has to
-- be one interval. Which text is printed is this project's own.
use Rattle.std.specs.Prelude.{◌&&◌, ◌||◌, not, ℕ, Bool, false, List, [], ◌∷◌, filter, map, if◌then◌else◌, Option, Some, None, Result, Ok, Err}
use Rattle.std.specs.Ordering.{is_lt}
use Rattle.vx_scheme.specs.declared.domain.Domain.{Domain}
use Rattle.vx_scheme.specs.declared.domain.Domain.TheVariants.{All, Releases}
use Rattle.vx_scheme.specs.declared.back_fault.BackFault.{BackFault}
use Rattle.vx_scheme.specs.declared.back_fault.BackFault.TheVariants.{NothingInDomain}
use Rattle.vx_scheme.specs.declared.span.Cut.{Cut}
use Rattle.vx_scheme.specs.declared.span.Span.{Span}
use Rattle.vx_scheme.specs.Cuts.{cut_cmp}
use Rattle.rpm_scheme.specs.Version.{Fields}
use Rattle.rpm_scheme.specs.Order.{order_of}
use Rattle.rpm_scheme.specs.Writing.{normal}
use Rattle.relation_ranges.specs.Written as written
use Rattle.vx_range.specs.Gaps.{gap_fault}
use Rattle.relation_ranges.specs.Rpm.Reading.{RpmRelation, signs_of}
use Rattle.relation_ranges.specs.Bounds.{span_terms}
use Rattle.relation_ranges.specs.Rpm.Spans.{has_release, named_in}

-- the relations with a comma between each two
abbrev pub range_text : List (List RpmRelation) → List ℕ
range_text = written.range_text signs_of normal

-- ---- moved cuts

-- In the domain of all a cut at a version without a release is put before it. Among releases a cut at a version with a
-- release is put after that version without its release.
abbrev pub moved_side : Domain → Cut Fields → Bool
moved_side All cut = cut.after && has_release cut.version
moved_side Releases cut = cut.after || has_release cut.version

abbrev pub moved : Domain → Cut Fields → Cut Fields
moved domain cut = record { version = named_in domain cut.version; after = moved_side domain cut; mark = cut.mark }

abbrev pub moved_bound : Domain → Option (Cut Fields) → Option (Cut Fields)
moved_bound domain None = None
moved_bound domain (Some cut) = Some (moved domain cut)

abbrev pub moved_span : Domain → Span Fields → Span Fields
moved_span domain span = record { lower = moved_bound domain span.lower; upper = moved_bound domain span.upper }

-- ---- what is left of the spans

-- both cuts are there, and the first is not below the second
abbrev pub meets : Option (Cut Fields) → Option (Cut Fields) → Bool
meets (Some a) (Some b) = not (is_lt (cut_cmp order_of a b))
meets (Some a) None = false
meets None b = false

-- spans whose lower cut is not below the upper are dropped
abbrev pub kept : List (Span Fields) → List (Span Fields)
kept spans = filter (λ span. not (meets span.lower span.upper)) spans

-- spans that touch are joined to one, from the first on
abbrev pub joined_from : Span Fields → List (Span Fields) → List (Span Fields)
joined_from begun [] = begun ∷ []
joined_from begun (span ∷ spans) =
    if meets begun.upper span.lower
    then joined_from (record { lower = begun.lower; upper = span.upper }) spans
    else begun ∷ joined_from span spans

abbrev pub joined_spans : List (Span Fields) → List (Span Fields)
joined_spans [] = []
joined_spans (span ∷ spans) = joined_from span spans

-- ---- the text

-- One span has its text. Where none is left the domain has no version in it, and of several the first gap decides.
abbrev pub text_of : List (Span Fields) → Result (List ℕ) BackFault
text_of [] = Err (NothingInDomain 1)
text_of (span ∷ []) = Ok (range_text (span_terms (λ c. c) order_of span.lower span.upper))
text_of (span ∷ next ∷ spans) = Err (gap_fault order_of span.upper next.lower)

-- the text of spans in a domain, or the refusal
abbrev pub back : Domain → List (Span Fields) → Result (List ℕ) BackFault
back domain spans = text_of (joined_spans (kept (map (moved_span domain) spans)))
