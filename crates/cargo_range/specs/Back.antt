-- The requirement of spans, among releases, in the notation of the Cargo book, "Specifying Dependencies"; which text is printed is
-- this project's own. A requirement is one interval, so the first gap is refused.
use Rattle.std.specs.Prelude.{◌==◌, ◌&&◌, ◌++◌, ℕ, Bool, true, false, List, [], ◌∷◌, length, map, filter, codes, if◌then◌else◌, Option, Some, None, Result, Ok, Err}
use Rattle.std.specs.List.{AllByRecursion}
use Rattle.std.specs.Ordering.{is_eq, is_lt}
use Rattle.semver.specs.Parse.{Parts}
use Rattle.semver.specs.declared.Op.{Op}
use Rattle.semver.specs.declared.Op.TheVariants as op
use Rattle.vx_scheme.specs.declared.domain.Domain.{Domain}
use Rattle.vx_scheme.specs.declared.domain.Domain.TheVariants.{All, Releases}
use Rattle.vx_scheme.specs.declared.back_fault.BackFault.{BackFault}
use Rattle.vx_scheme.specs.declared.back_fault.BackFault.TheVariants.{NothingInDomain}
use Rattle.vx_scheme.specs.declared.span.Cut.{Cut}
use Rattle.vx_scheme.specs.declared.span.Span.{Span}
use Rattle.vx_scheme.specs.Cuts.{cut_cmp}
use Rattle.vx_range.specs.Gaps.{gap_fault}
use Rattle.vx_range.specs.Spans.{is_point}
use Rattle.cargo_range.specs.declared.construct.Construct.{Construct}
use Rattle.cargo_range.specs.declared.construct.Partial.TheVariants.{Full}
use Rattle.cargo_range.specs.declared.back.Sign.{Sign}
use Rattle.cargo_range.specs.declared.back.Sign.TheVariants.{Exact, Greater, GreaterEqual, Less, LessEqual}
use Rattle.cargo_range.specs.Version.{IsPlain, pre_of, release_of}
use Rattle.cargo_range.specs.Order.{precedence}
use Rattle.cargo_range.specs.Writing.{normal}
use Rattle.cargo_range.specs.Reading.{construct}

-- ---- spans among releases

-- The cut that parts the same releases. One at a pre-release is put before the release of its numbers, which is the lowest
-- release above it; one at a release stays, and its build, which counts for nothing, is left out.
abbrev pub move_cut : Cut Parts → Cut Parts
move_cut cut = record {
  version = release_of cut.version.0 cut.version.1 cut.version.2;
  after = cut.after && (length (pre_of cut.version) == 0);
  mark = cut.mark;
}

abbrev pub move_bound : Option (Cut Parts) → Option (Cut Parts)
move_bound None = None
move_bound (Some cut) = Some (move_cut cut)

abbrev pub move_span : Span Parts → Span Parts
move_span span = record { lower = move_bound span.lower; upper = move_bound span.upper }

-- the lower cut is below the upper one, where both are there
abbrev pub are_apart : Option (Cut Parts) → Option (Cut Parts) → Bool
are_apart None upper = true
are_apart (Some lower) None = true
are_apart (Some lower) (Some upper) = is_lt (cut_cmp precedence lower upper)

abbrev pub is_proper : Span Parts → Bool
is_proper span = are_apart span.lower span.upper

-- a span ends where the next one begins
abbrev pub touch : Option (Cut Parts) → Option (Cut Parts) → Bool
touch None lower = false
touch (Some upper) None = false
touch (Some upper) (Some lower) = is_eq (cut_cmp precedence upper lower)

-- spans that touch are joined
abbrev pub join_behind : Span Parts → List (Span Parts) → List (Span Parts)
join_behind span [] = span ∷ []
join_behind span (next ∷ spans) =
    if touch span.upper next.lower
    then join_behind (record { lower = span.lower; upper = next.upper }) spans
    else span ∷ join_behind next spans

abbrev pub join_spans : List (Span Parts) → List (Span Parts)
join_spans [] = []
join_spans (span ∷ spans) = join_behind span spans

-- the spans with their cuts moved, without those whose lower cut is then not below the upper one, and joined
abbrev pub among_releases : List (Span Parts) → List (Span Parts)
among_releases spans = join_spans (filter is_proper (map move_span spans))

-- ---- texts

-- a comparator that is printed
pub record Bound : Type 0 where
  pub sign : Sign
  pub version : Parts

-- each is at a release without a build
abbrev pub ArePlain : List Bound → Type 0
ArePlain bounds = AllByRecursion (λ bound. IsPlain bound.version) bounds

-- the comparator as `semver` reads it
abbrev pub operator_of : Sign → Op
operator_of Exact = op.Exact
operator_of Greater = op.Greater
operator_of GreaterEqual = op.GreaterEq
operator_of Less = op.Less
operator_of LessEqual = op.LessEq

abbrev pub construct_of : Bound → Construct
construct_of bound = construct (operator_of bound.sign) (Full bound.version)

abbrev pub sign_text : Sign → List ℕ
sign_text Exact = codes "="
sign_text Greater = codes ">"
sign_text GreaterEqual = codes ">="
sign_text Less = codes "<"
sign_text LessEqual = codes "<="

abbrev pub bound_text : Bound → List ℕ
bound_text bound = sign_text bound.sign ++ normal bound.version

-- `*` where there is no comparator, and else the comparators with a comma between each two
abbrev pub requirement_text : List Bound → List ℕ
requirement_text [] = codes "*"
requirement_text (bound ∷ []) = bound_text bound
requirement_text (bound ∷ next ∷ bounds) = bound_text bound ++ (codes ", " ++ requirement_text (next ∷ bounds))

-- a lower cut before V is `>=V`, one after it `>V`
abbrev pub lower_bound : Cut Parts → Bound
lower_bound cut = record { sign = if cut.after then Greater else GreaterEqual; version = cut.version }

-- an upper cut before W is `<W`, one after it `<=W`
abbrev pub upper_bound : Cut Parts → Bound
upper_bound cut = record { sign = if cut.after then LessEqual else Less; version = cut.version }

-- the comparators of a span: of a point `=V`, with the version of its first cut, and else its bounds
abbrev pub bounds_of : Option (Cut Parts) → Option (Cut Parts) → List Bound
bounds_of None None = []
bounds_of (Some lower) None = lower_bound lower ∷ []
bounds_of None (Some upper) = upper_bound upper ∷ []
bounds_of (Some lower) (Some upper) =
    if is_point precedence lower upper
    then record { sign = Exact; version = lower.version } ∷ []
    else lower_bound lower ∷ upper_bound upper ∷ []

abbrev pub interval_text : Span Parts → List ℕ
interval_text span = requirement_text (bounds_of span.lower span.upper)

-- ---- refusals

-- the text of one interval; where no span is left no release is meant, and where more are the first gap is refused
abbrev pub back_of : List (Span Parts) → Result (List ℕ) BackFault
back_of [] = Err (NothingInDomain 1)
back_of (span ∷ []) = Ok (interval_text span)
back_of (span ∷ next ∷ spans) = Err (gap_fault precedence span.upper next.lower)

-- the text of spans, or its first refusal; in the domain of all, which is not offered, nothing is printed
abbrev pub back : Domain → List (Span Parts) → Result (List ℕ) BackFault
back Releases spans = back_of (among_releases spans)
back All spans = Err (NothingInDomain 1)
