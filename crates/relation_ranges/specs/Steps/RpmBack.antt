-- Cuts as the program holds them, once they are moved.
use Rattle.std.specs.Prelude.{List, Option, Some, None}
use Rattle.vx_scheme.specs.declared.domain.Domain.{Domain}
use Rattle.vx_scheme.specs.declared.span.Cut.{Cut}
use Rattle.vx_scheme.specs.declared.span.Span.{Span}
use Rattle.rpm_scheme.specs.Version.{Fields}
use Rattle.relation_ranges.specs.Rpm.Spans.{named_in}
use Rattle.relation_ranges.specs.Rpm.Back.{joined_from, joined_spans}
use Rattle.relation_ranges.specs.declared.rpm.back.Edge.{Edge}
use Rattle.relation_ranges.specs.declared.rpm.back.Interval.{Interval}

-- the cut of an edge, whose version stands for another in the domain
abbrev pub cut_of : Domain → Edge → Cut Fields
cut_of domain edge = record { version = named_in domain edge.version.now; after = edge.after; mark = edge.mark }

abbrev pub bound_of : Domain → Option Edge → Option (Cut Fields)
bound_of domain None = None
bound_of domain (Some edge) = Some (cut_of domain edge)

abbrev pub span_of : Domain → Interval → Span Fields
span_of domain interval = record { lower = bound_of domain interval.lower; upper = bound_of domain interval.upper }

-- the spans that are joined, behind the one that is begun, where there is one
abbrev pub joined_with : Domain → Option Interval → List (Span Fields) → List (Span Fields)
joined_with domain None spans = joined_spans spans
joined_with domain (Some begun) spans = joined_from (span_of domain begun) spans
