-- What is left of spans, span by span.
use Rattle.std.proofs.Common.{◌≡◌, false, List, [], ◌∷◌, refl, sym, ap, ◌∙◌, inl, inr, Option, Some, Err}
use Rattle.std.proofs.lemmas.Bool.{cases_Bool}
use Rattle.vx_scheme.specs.declared.domain.Domain.{Domain}
use Rattle.vx_scheme.specs.declared.back_fault.BackFault.{BackFault}
use Rattle.vx_scheme.specs.declared.span.Span.{Span}
use Rattle.rpm_scheme.specs.Version.{Fields}
use Rattle.rpm_scheme.specs.Order.{order_of}
use Rattle.vx_range.specs.Gaps.{gap_fault}
use Rattle.relation_ranges.specs.Rpm.Back.{joined_from, kept, meets, text_of}
use Rattle.relation_ranges.specs.Steps.RpmBack.{bound_of, joined_with, span_of}
use Rattle.relation_ranges.specs.declared.rpm.back.Interval.{Interval}

-- the first span that is left begins where the first one does
first_left : (span : Span Fields) (spans : List (Span Fields)) → (first : Span Fields) × (more : List (Span Fields)) × (joined_from span spans ≡ first ∷ more) × (first.lower ≡ span.lower)
first_left span [] = (span, [], refl, refl)
first_left span (next ∷ spans) = elim (cases_Bool (meets span.upper next.lower)) [
  | inl is ↦ rw is (first_left (record { lower = span.lower; upper = next.upper }) spans)
  | inr other ↦ rw other (span, joined_from next spans, refl, refl)
]

gap_text : (span next : Span Fields) (spans : List (Span Fields)) → meets span.upper next.lower ≡ false → text_of (joined_from span (next ∷ spans)) ≡ Err (gap_fault order_of span.upper next.lower)
gap_text span next spans apart =
    let left = first_left next spans in
    rw apart (ap (λ more. text_of (span ∷ more)) left.2 ∙ ap (λ lower. Err (gap_fault order_of span.upper lower)) left.3)

-- a span that does not touch the one that is begun
pub gap_behind : (domain : Domain) (start : Option Interval) (before next : Interval) (fault : BackFault) → start ≡ Some before
    → meets (bound_of domain next.lower) (bound_of domain next.upper) ≡ false → meets (bound_of domain before.upper) (bound_of domain next.lower) ≡ false
    → fault ≡ gap_fault order_of (bound_of domain before.upper) (bound_of domain next.lower) → (spans : List (Span Fields))
    → text_of (joined_with domain start (kept (span_of domain next ∷ spans))) ≡ Err fault
gap_behind domain start before next fault is some apart fault_is spans =
    rw (is, some) (gap_text (span_of domain before) (span_of domain next) (kept spans) apart ∙ ap Err (sym fault_is))
