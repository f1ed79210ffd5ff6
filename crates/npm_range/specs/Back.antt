-- The way back: the range text of spans, the same in each domain, in the notation of the README of node-semver, "Ranges"; which
-- text is printed is this project's own. Nothing is refused, and versions are normal texts.
use Rattle.std.specs.Prelude.{◌++◌, ℕ, List, Option, Some, None, Result, Ok, codes, if◌then◌else◌}
use Rattle.std.specs.List.{join_by}
use Rattle.vx_scheme.specs.declared.back_fault.BackFault.{BackFault}
use Rattle.vx_scheme.specs.declared.domain.Domain.{Domain}
use Rattle.vx_scheme.specs.declared.span.Cut.{Cut}
use Rattle.vx_scheme.specs.declared.span.Span.{Span}
use Rattle.vx_range.specs.Spans.{is_point}
use Rattle.npm_scheme.specs.Version.{Fields}
use Rattle.npm_scheme.specs.Order.{order_of}
use Rattle.npm_scheme.specs.Writing.{normal}

-- above a lower cut before V is `>=V`, above one after V `>V`
abbrev pub lower_text : Cut Fields → List ℕ
lower_text cut = (if cut.after then codes ">" else codes ">=") ++ normal cut.version

-- below an upper cut before W is `<W`, below one after W `<=W`
abbrev pub upper_text : Cut Fields → List ℕ
upper_text cut = (if cut.after then codes "<=" else codes "<") ++ normal cut.version

-- a point is the version of its first cut; any other span has both its sides
abbrev pub between_text : Cut Fields → Cut Fields → List ℕ
between_text lower upper = if is_point order_of lower upper then normal lower.version else (lower_text lower ++ (codes " " ++ upper_text upper))

-- a side without a cut is left out, and `*` is every version
abbrev pub sides_text : Option (Cut Fields) → Option (Cut Fields) → List ℕ
sides_text None None = codes "*"
sides_text None (Some upper) = upper_text upper
sides_text (Some lower) None = lower_text lower
sides_text (Some lower) (Some upper) = between_text lower upper

abbrev pub span_text : Span Fields → List ℕ
span_text span = sides_text span.lower span.upper

-- the spans are alternatives
abbrev pub spans_text : List (Span Fields) → List ℕ
spans_text spans = join_by span_text (codes " || ") spans

abbrev pub back : Domain → List (Span Fields) → Result (List ℕ) BackFault
back domain spans = Ok (spans_text spans)
