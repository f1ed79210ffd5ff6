-- What Cargo's range language promises of the requirements that it prints.
use Rattle.std.proofs.Common.{◌≡◌, ◌∙◌, ◌≤◌, ◌&&◌, not, ℕ, Bool, true, false, List, [], ◌∷◌, length, map, refl, sym, ap, subst, if◌then◌else◌, Option, Some, None, Ok, inl, inr, arith}
use Rattle.std.specs.Prelude.{⊤}
use Rattle.std.specs.List.{list_all}
use Rattle.std.specs.Ordering.{is_eq}
use Rattle.std.specs.declared.cmp.Ordering.{Ordering}
use Rattle.std.specs.declared.cmp.Ordering.TheVariants as ordering
use Rattle.std.proofs.Math.Bool.{and-true, or-false}
use Rattle.std.proofs.lemmas.Bool.{cases_Bool, and_parts, not-true}
use Rattle.semver.specs.EvalViews.{matches_views, view_op}
use Rattle.semver.specs.Parse.{Held, Parts}
use Rattle.semver.proofs.Numerals.{ok-value}
use Rattle.vx_scheme.specs.declared.domain.Domain.{Domain}
use Rattle.vx_scheme.specs.declared.domain.Domain.TheVariants.{All, Releases}
use Rattle.vx_scheme.specs.declared.span.Cut.{Cut}
use Rattle.vx_scheme.specs.declared.span.Span.{Span}
use Rattle.vx_scheme.specs.Cuts.{stands_below, cut_below, is_over, is_under, in_span, in_spans}
use Rattle.vx_scheme.specs.Native.{BackLaws, PrintsSpans, CutIs, EachVersion, IsSpans, by_domain}
use Rattle.vx_range.specs.Spans.{is_point}
use Rattle.vx_range.specs.Laws.Points as points
use Rattle.cargo_range.specs.declared.construct.Construct.{Construct}
use Rattle.cargo_range.specs.declared.construct.Partial.TheVariants.{Full}
use Rattle.cargo_range.specs.declared.back.Sign.{Sign}
use Rattle.cargo_range.specs.declared.back.Sign.TheVariants.{Exact, Greater, GreaterEqual, Less, LessEqual}
use Rattle.cargo_range.specs.Version.{IsVersion, IsRelease, IsPlain}
use Rattle.cargo_range.specs.Order.{precedence, precedence_total}
use Rattle.cargo_range.specs.Holds.{held_by, held_of}
use Rattle.cargo_range.specs.Reading.{Reads}
use Rattle.cargo_range.specs.Range.{IsRange, In}
use Rattle.cargo_range.specs.Back.{Bound, ArePlain, operator_of, construct_of, bounds_of, interval_text, among_releases, back_of, back}
use Rattle.cargo_range.specs.Laws.Forms.{forms_held}
use Rattle.cargo_range.specs.Laws.Orders.{release_all, exact_order, greater_order, greater_equal_order, less_order, less_equal_order}
use Rattle.cargo_range.specs.Laws.Moved.{among_say, among_plain}
use Rattle.cargo_range.specs.Laws.Printed.{printed_reads}

-- ---- what the comparators of a span hold

-- the comparator of a bound holds of the version
abbrev holds_by : Sign → Parts → Parts → Bool
holds_by sign w v = view_op (operator_of sign) (held_by (operator_of sign) (Full w)) v

lower_says : (after : Bool) (w v : Parts) → holds_by (if after then Greater else GreaterEqual) w v ≡ stands_below (precedence w v) after
lower_says true w v = greater_order w.0 w.1 w.2 w.3 v ∙ sym (points.over_after precedence precedence_total w v)
lower_says false w v = greater_equal_order w.0 w.1 w.2 w.3 v ∙ sym (points.over_before precedence precedence_total w v)

upper_says : (after : Bool) (w v : Parts) → holds_by (if after then LessEqual else Less) w v ≡ not (stands_below (precedence w v) after)
upper_says true w v = less_equal_order w.0 w.1 w.2 w.3 v ∙ sym (points.under_after precedence precedence_total w v)
upper_says false w v = less_order w.0 w.1 w.2 w.3 v ∙ sym (points.under_before precedence precedence_total w v)

equal_is : (o : Ordering) → is_eq o ≡ true → o ≡ ordering.Equal
equal_is ordering.Less is = cc is
equal_is ordering.Equal is = refl
equal_is ordering.Greater is = cc is

-- a point holds the versions that are order-equal to its first cut's
point_says : (lower upper : Cut Parts) (v : Parts) → is_point precedence lower upper ≡ true
    → holds_by Exact lower.version v ≡ (cut_below precedence lower v && not (cut_below precedence upper v))
point_says lower upper v is =
    let a = and_parts (not lower.after && upper.after) (is_eq (precedence lower.version upper.version)) is in
    let b = and_parts (not lower.after) upper.after a.0 in
    let same = precedence_total.congr lower.version upper.version v (equal_is (precedence lower.version upper.version) a.1) in
    exact_order lower.version.0 lower.version.1 lower.version.2 lower.version.3 v
    ∙ sym (points.point_says precedence precedence_total 0 lower.version v) ∙ or-false _
    ∙ (λ i. stands_below (precedence lower.version v) (sym (not-true lower.after b.0) i) && not (stands_below (same i) (sym b.1 i)))

-- each comparator of these bounds holds of the version
abbrev all_hold : List Bound → Parts → Bool
all_hold bounds v = list_all (λ c. view_op c.0 c v) (map held_of (map construct_of bounds))

bounds_say : (lower upper : Option (Cut Parts)) (v : Parts)
    → all_hold (bounds_of lower upper) v
    ≡ (is_over (λ cut. cut_below precedence cut v) lower && is_under (λ cut. cut_below precedence cut v) upper)
bounds_say None None v = refl
bounds_say None (Some upper) v = and-true _ ∙ upper_says upper.after upper.version v
bounds_say (Some lower) None v = and-true _ ∙ lower_says lower.after lower.version v ∙ sym (and-true _)
bounds_say (Some lower) (Some upper) v = elim (cases_Bool (is_point precedence lower upper)) [
  | inl point ↦ rw point (and-true _ ∙ point_says lower upper v point)
  | inr other ↦ rw other (λ i. lower_says lower.after lower.version v i && (and-true _ ∙ upper_says upper.after upper.version v) i)
]

-- ---- what is printed

bounds_plain : (lower upper : Option (Cut Parts)) → CutIs IsPlain lower → CutIs IsPlain upper → ArePlain (bounds_of lower upper)
bounds_plain None None low high = tt
bounds_plain None (Some upper) low high = (high, tt)
bounds_plain (Some lower) None low high = (low, tt)
bounds_plain (Some lower) (Some upper) low high = elim (cases_Bool (is_point precedence lower upper)) [
  | inl point ↦ rw point (low, tt)
  | inr other ↦ rw other (low, (high, tt))
]

bounds_few : (lower upper : Option (Cut Parts)) → length (bounds_of lower upper) ≤ 32
bounds_few None None = omega arith
bounds_few None (Some upper) = omega arith
bounds_few (Some lower) None = omega arith
bounds_few (Some lower) (Some upper) = elim (cases_Bool (is_point precedence lower upper)) [
  | inl point ↦ rw point (omega arith)
  | inr other ↦ rw other (omega arith)
]

-- a text that is printed is that of one span
record IsOneSpan (spans : List (Span Parts)) (text : List ℕ) : Type 0 where
  span : Span Parts
  are : spans ≡ span ∷ []
  written : interval_text span ≡ text

one_span : (spans : List (Span Parts)) (text : List ℕ) → back_of spans ≡ Ok text → IsOneSpan spans text
one_span [] text printed = absurd (cc printed)
one_span (span ∷ []) text printed = record { span = span; are = refl; written = cc printed }
one_span (span ∷ next ∷ spans) text printed = absurd (cc printed)

-- a reading of a text, with what its comparators match
members : (text : List ℕ) (all : List Construct) (reads : Reads text all) (v : Parts) (inside : Bool)
    → matches_views reads.held v ≡ inside → (In text v → inside ≡ true) × (inside ≡ true → In text v)
members text all reads v inside said = (
  λ in'. sym said ∙ ap (λ (held : List Held). matches_views held v) (ok-value reads.held in'.held (sym reads.read ∙ in'.read)) ∙ in'.matched,
  λ is. record { held = reads.held; read = reads.read; all = all; formed = reads.formed; matched = said ∙ is },
)

interval_prints : (spans : List (Span Parts)) (span : Span Parts) → EachVersion IsPlain (span ∷ [])
    → ((v : Parts) → IsRelease v → in_span precedence span v ≡ in_spans precedence spans v)
    → PrintsSpans precedence IsVersion IsRelease IsRange In spans (interval_text span)
interval_prints spans span plain same =
    let bounds = bounds_of span.lower span.upper in
    let are = bounds_plain span.lower span.upper plain.0.0 plain.0.1 in
    let reads = printed_reads bounds (bounds_few span.lower span.upper) are in
    record {
      range = (map construct_of bounds, reads);
      members = λ v is release. members (interval_text span) (map construct_of bounds) reads v (in_spans precedence spans v)
          (release_all reads.held v release
          ∙ ap (λ (held : List Held). list_all (λ c. view_op c.0 c v) held) (forms_held reads.held (map construct_of bounds) reads.formed)
          ∙ bounds_say span.lower span.upper v ∙ same v release);
    }

prints : (domain : Domain) (spans : List (Span Parts)) (text : List ℕ) → IsSpans precedence spans → EachVersion IsVersion spans
    → back domain spans ≡ Ok text
    → PrintsSpans precedence IsVersion (by_domain (λ _. ⊤) IsRelease domain) IsRange In spans text
prints All spans text is are printed = absurd (cc printed)
prints Releases spans text is are printed =
    let one = one_span (among_releases spans) text printed in
    subst (PrintsSpans precedence IsVersion IsRelease IsRange In spans) one.written
    (interval_prints spans one.span (subst (EachVersion IsPlain) one.are (among_plain spans are))
    (λ v release. sym (or-false _) ∙ ap (λ list. in_spans precedence list v) (sym one.are) ∙ among_say spans v release))

pub cargo_backs : BackLaws precedence IsVersion (by_domain (λ _. ⊤) IsRelease) IsRange In back
cargo_backs = record { backward = prints }
