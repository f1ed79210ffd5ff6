-- What PyPI's range language promises of the way back: the text of spans holds what the spans hold.
use Rattle.std.proofs.Common.{◌≡◌, ◌≢◌, ◌&&◌, ◌||◌, not, if◌then◌else◌, nat_lt, ℕ, Bool, true, false, List, [], ◌∷◌, ◌++◌, length, map, refl, sym, ap, ◌∙◌, subst, inl, inr, Option, Some, None, Ok, arith}
use Rattle.std.specs.Prelude.{⊤, is_none}
use Rattle.std.specs.List.{AllByRecursion}
use Rattle.std.proofs.Math.Bool.{or-false, and-true}
use Rattle.std.proofs.lemmas.Bool.{and_parts, cases_Bool}
use Rattle.std.proofs.lemmas.Bool.Decides.{nat_tests}
use Rattle.std.proofs.lemmas.List.Folds.{list_all-append}
use Rattle.vx_spec.proofs.EachLaws.{each_append}
use Rattle.vx_scheme.specs.declared.back_fault.BackFault.{BackFault}
use Rattle.vx_scheme.specs.declared.domain.Domain.{Domain}
use Rattle.vx_scheme.specs.declared.domain.Domain.TheVariants.{All, Releases}
use Rattle.vx_scheme.specs.declared.span.Cut.{Cut}
use Rattle.vx_scheme.specs.declared.span.Span.{Span}
use Rattle.vx_scheme.specs.Cuts.{cut_below, cuts_of, in_spans, spans_of, starts_of}
use Rattle.vx_scheme.specs.Native.{BackLaws, CutIs, EachVersion, IsSpans, PrintsSpans, by_domain}
use Rattle.vx_scheme.proofs.CutLaws.{cut_below-lower}
use Rattle.vx_range.specs.Making.{terms_hold}
use Rattle.vx_range.specs.Reading.{Reads}
use Rattle.vx_range.specs.Laws.OneRefusal.{reads_one}
use Rattle.vx_range.specs.Laws.Gaps.{IsRising, after_cut, spans_are, spans_say}
use Rattle.pep440_scheme.specs.Version.{Fields, IsPublic, IsRelease, IsVersion}
use Rattle.pep440_scheme.specs.Order.{order_of, order_total}
use Rattle.pep440_range.specs.declared.construct.Construct.{Construct}
use Rattle.pep440_range.specs.declared.construct.Construct.TheVariants.{Equal, NotWithin}
use Rattle.pep440_range.specs.Holds.{holds}
use Rattle.pep440_range.specs.Reading.{IsCut, ReadsAs, has_numbers}
use Rattle.pep440_range.specs.Refusals.{IsPast}
use Rattle.pep440_range.specs.Range.{In, IsRange}
use Rattle.pep440_range.specs.Back.{all_gaps, back, back_by, below_by, bound_fault, constructs_of, first_fault, gap_construct, gap_constructs, gap_fault, gaps_fault, is_one_version, is_series, is_some_number, last_upper, lower_by, lower_constructs, lowered_last, or_else, range_text, series_before, text_unless, upper_by, upper_constructs, without_zeros}
use Rattle.pep440_range.specs.Laws.AgreeWithin.{IsOf}
use Rattle.pep440_range.specs.Laws.BackParts.{bound_public, gap_says, gap_series, hold, lower_says, lowered_some, one_says, upper_says}
use Rattle.pep440_range.specs.Laws.BackWords.{IsWritten, one, written_reads}
use Rattle.pep440_range.specs.Laws.Readings.{pypi_cuts, pypi_pieces}

-- ---- behind an upper cut, with the cuts behind it, where nothing is refused

swap : (a b c : Bool) → (a && (b && c)) ≡ (b && (a && c))
swap true true c = refl
swap true false c = refl
swap false true c = refl
swap false false c = refl

none_of : (a b : Option BackFault) → or_else a b ≡ None → (a ≡ None) × (b ≡ None)
none_of None b none = (refl, none)
none_of (Some fault) b none = cc none

abbrev open_to : Option (Cut Fields) → Cut Fields → Span Fields
open_to before upper = record { lower = before; upper = Some upper }

-- the last upper cut of a span up to this cut and of those between the cuts behind it
abbrev last_of : Option (Cut Fields) → Cut Fields → List (Cut Fields) → Option (Cut Fields)
last_of before d cuts = last_upper (open_to before d) (spans_of false cuts)

behind_says : (domain : Domain) (v : Fields) → IsOf domain v → (before : Option (Cut Fields)) (d : Cut Fields) (cuts : List (Cut Fields))
    → gaps_fault domain (open_to before d ∷ spans_of false cuts) ≡ None → bound_fault domain (last_of before d cuts) ≡ None
    → after_cut order_of v d cuts
    ≡ (hold (upper_constructs domain (last_of before d cuts)) v && hold (all_gaps domain (open_to before d ∷ spans_of false cuts)) v)
behind_says domain v is before d [] none last = sym (and-true _ ∙ upper_says domain v d is last)
behind_says domain v is before d (e ∷ []) none last =
    let gap = none_of (gap_fault domain (Some d) (Some e)) None none in
    sym (and-true _ ∙ gap_says domain v d e is gap.0)
behind_says domain v is before d (e ∷ f ∷ cuts) none last =
    let gap = none_of (gap_fault domain (Some d) (Some e)) (gaps_fault domain (open_to (Some e) f ∷ spans_of false cuts)) none in
    let upper = hold (upper_constructs domain (last_of (Some e) f cuts)) v in
    let gaps = hold (all_gaps domain (open_to (Some e) f ∷ spans_of false cuts)) v in
    (λ i. sym (gap_says domain v d e is gap.0) i && behind_says domain v is (Some e) f cuts gap.1 last i)
    ∙ swap (holds (gap_construct domain d e) v) upper gaps

-- ---- all spans

-- the upper bound, then the gaps
both_hold : (v : Fields) (upper gaps : List Construct) → hold (upper ++ gaps) v ≡ (hold upper v && hold gaps v)
both_hold v upper gaps = list_all-append (λ c. holds c v) upper gaps

spans_hold : (domain : Domain) (v : Fields) → IsOf domain v → (starts : Bool) (cuts : List (Cut Fields)) → IsRising order_of cuts
    → spans_of starts cuts ≢ [] → first_fault domain (spans_of starts cuts) ≡ None
    → in_spans order_of (spans_of starts cuts) v ≡ hold (constructs_of domain (spans_of starts cuts)) v
spans_hold domain v is false [] rising some none = absurd (some refl)
spans_hold domain v is false (c ∷ []) rising some none =
    let lower = none_of (bound_fault domain (Some c)) None none in
    or-false _ ∙ and-true _ ∙ sym (and-true _ ∙ lower_says domain v c is lower.0)
spans_hold domain v is false (c ∷ d ∷ cuts) rising some none =
    let upper = upper_constructs domain (last_of (Some c) d cuts) in
    let gaps = all_gaps domain (open_to (Some c) d ∷ spans_of false cuts) in
    let lower = none_of (bound_fault domain (Some c))
    (or_else (gaps_fault domain (open_to (Some c) d ∷ spans_of false cuts)) (bound_fault domain (last_of (Some c) d cuts))) none in
    let rest = none_of (gaps_fault domain (open_to (Some c) d ∷ spans_of false cuts))
    (bound_fault domain (last_of (Some c) d cuts)) lower.1 in
    ap (λ r. (cut_below order_of c v && not (cut_below order_of d v)) || r) (spans_say order_of order_total v cuts)
    ∙ spans_are order_of order_total v (cut_below order_of c v) d cuts (cut_below-lower order_of order_total c d v rising.0.0) rising.1
    ∙ (λ i. sym (lower_says domain v c is lower.0) i
    && (behind_says domain v is (Some c) d cuts rest.0 rest.1 ∙ sym (both_hold v upper gaps)) i)
spans_hold domain v is true [] rising some none = refl
spans_hold domain v is true (d ∷ cuts) rising some none =
    let upper = upper_constructs domain (last_of None d cuts) in
    let gaps = all_gaps domain (open_to None d ∷ spans_of false cuts) in
    let rest = none_of (gaps_fault domain (open_to None d ∷ spans_of false cuts)) (bound_fault domain (last_of None d cuts)) none in
    ap (λ r. not (cut_below order_of d v) || r) (spans_say order_of order_total v cuts)
    ∙ spans_are order_of order_total v true d cuts (λ _. refl) rising
    ∙ behind_says domain v is None d cuts rest.0 rest.1 ∙ sym (both_hold v upper gaps)

-- ---- the constructs are of versions

lower_numbers : (after : Bool) (v : Fields) → has_numbers (lower_by after) v ≡ true
lower_numbers true v = refl
lower_numbers false v = refl

upper_numbers : (after : Bool) (v : Fields) → has_numbers (upper_by after) v ≡ true
upper_numbers true v = refl
upper_numbers false v = refl

lower_written : (domain : Domain) (lower : Option (Cut Fields)) → CutIs IsVersion lower → bound_fault domain lower ≡ None
    → AllByRecursion IsWritten (lower_constructs lower)
lower_written domain None is none = tt
lower_written domain (Some cut) is none = ((is, bound_public domain cut none, lower_numbers cut.after cut.version), tt)

below_written : (w : Fields) (final : Bool) → IsVersion w → IsPublic w → AllByRecursion IsWritten (below_by w final)
below_written w true is public' = ((is, public', refl), (is, tt))
below_written w false is public' = ((is, public', refl), tt)

upper_written : (domain : Domain) (upper : Option (Cut Fields)) → CutIs IsVersion upper → bound_fault domain upper ≡ None
    → AllByRecursion IsWritten (upper_constructs domain upper)
upper_written domain None is none = tt
upper_written Releases (Some cut) is none = ((is, bound_public Releases cut none, upper_numbers cut.after cut.version), tt)
upper_written All (Some cut) is none =
    below_written cut.version (is_none cut.version.pre && is_none cut.version.dev) is (bound_public All cut none)

some_length : (numbers : List ℕ) → is_some_number numbers ≡ true → nat_lt 0 (length numbers) ≡ true
some_length [] some = cc some
some_length (n ∷ numbers) some = grind (arith, nat_tests)

series_number : (a b some : Bool) → (a && (some && b)) ≡ true → some ≡ true
series_number true b some is = (and_parts some b is).0
series_number false b some is = cc is

series_written : (domain : Domain) (c d : Cut Fields) → is_series domain c d ≡ true → IsWritten (NotWithin (series_before d.version))
series_written domain c d is = (
  record {
    release = some_length (lowered_last (without_zeros d.version.release))
        (lowered_some (without_zeros d.version.release) (series_number _ _ _ is));
    local = refl;
  },
  record { pre = refl; post = refl; dev = refl; local = refl },
)

gap_written : (domain : Domain) (c d : Cut Fields) → IsVersion c.version → gap_fault domain (Some c) (Some d) ≡ None
    → IsWritten (gap_construct domain c d)
gap_written domain c d is none = elim (cases_Bool (is_one_version domain c d)) [
  | inl one ↦ rw one is
  | inr other ↦ rw other (series_written domain c d (gap_series (is_one_version domain c d) (is_series domain c d) _ none other))
]

between_written : (domain : Domain) (lower upper : Option (Cut Fields)) → CutIs IsVersion lower → gap_fault domain lower upper ≡ None
    → AllByRecursion IsWritten (gap_constructs domain lower upper)
between_written domain (Some c) (Some d) is none = (gap_written domain c d is none, tt)
between_written domain (Some c) None is none = tt
between_written domain None upper is none = tt

gaps_written : (domain : Domain) (spans : List (Span Fields)) → EachVersion IsVersion spans → gaps_fault domain spans ≡ None
    → AllByRecursion IsWritten (all_gaps domain spans)
gaps_written domain [] each none = tt
gaps_written domain (span ∷ []) each none = tt
gaps_written domain (span ∷ next ∷ spans) each none =
    let gap = none_of (gap_fault domain span.upper next.lower) (gaps_fault domain (next ∷ spans)) none in
    each_append IsWritten (gap_constructs domain span.upper next.lower) (all_gaps domain (next ∷ spans))
    (between_written domain span.upper next.lower each.0.1 gap.0) (gaps_written domain (next ∷ spans) each.1 gap.1)

last_is : (span : Span Fields) (spans : List (Span Fields)) → EachVersion IsVersion (span ∷ spans) → CutIs IsVersion (last_upper span spans)
last_is span [] each = each.0.1
last_is span (next ∷ spans) each = last_is next spans each.1

all_written : (domain : Domain) (spans : List (Span Fields)) → EachVersion IsVersion spans → first_fault domain spans ≡ None
    → AllByRecursion IsWritten (constructs_of domain spans)
all_written domain [] each none = tt
all_written domain (span ∷ spans) each none =
    let lower = none_of (bound_fault domain span.lower)
    (or_else (gaps_fault domain (span ∷ spans)) (bound_fault domain (last_upper span spans))) none in
    let rest = none_of (gaps_fault domain (span ∷ spans)) (bound_fault domain (last_upper span spans)) lower.1 in
    each_append IsWritten (lower_constructs span.lower) (upper_constructs domain (last_upper span spans) ++ all_gaps domain (span ∷ spans))
    (lower_written domain span.lower each.0.0 lower.0)
    (each_append IsWritten (upper_constructs domain (last_upper span spans)) (all_gaps domain (span ∷ spans))
    (upper_written domain (last_upper span spans) (last_is span spans each) rest.1) (gaps_written domain (span ∷ spans) each rest.0))

-- ---- what is printed

-- the text is that of constructs that hold where the spans do
record IsPrinted (domain : Domain) (spans : List (Span Fields)) (text : List ℕ) : Type 0 where
  constructs : List Construct
  written : range_text constructs ≡ text
  each : AllByRecursion IsWritten constructs
  says : (v : Fields) → IsOf domain v → in_spans order_of spans v ≡ hold constructs v

of_text : (domain : Domain) (spans : List (Span Fields)) (fault : Option BackFault) (text : List ℕ)
    → text_unless fault (constructs_of domain spans) ≡ Ok text → (fault ≡ None) × (range_text (constructs_of domain spans) ≡ text)
of_text domain spans None text made = (refl, cc made)
of_text domain spans (Some fault) text made = cc made

all_say : (domain : Domain) (spans : List (Span Fields)) → IsSpans order_of spans → first_fault domain spans ≡ None → (v : Fields)
    → IsOf domain v → in_spans order_of spans v ≡ hold (constructs_of domain spans) v
all_say domain spans is none v within =
    let apart = is.in_order.apart in
    subst (λ (s : List (Span Fields)). in_spans order_of s v ≡ hold (constructs_of domain s) v) apart
    (spans_hold domain v within (starts_of spans) (cuts_of spans) is.in_order.rising
    (subst (λ (s : List (Span Fields)). s ≢ []) (sym apart) is.some)
    (subst (λ (s : List (Span Fields)). first_fault domain s ≡ None) (sym apart) none))

several_printed : (domain : Domain) (spans : List (Span Fields)) (text : List ℕ) → IsSpans order_of spans → EachVersion IsVersion spans
    → text_unless (first_fault domain spans) (constructs_of domain spans) ≡ Ok text → IsPrinted domain spans text
several_printed domain spans text is each made =
    let e = of_text domain spans (first_fault domain spans) text made in
    record {
      constructs = constructs_of domain spans;
      written = e.1;
      each = all_written domain spans each e.0;
      says = all_say domain spans is e.0;
    }

abbrev between_cuts : Cut Fields → Cut Fields → List (Span Fields)
between_cuts c d = record { lower = Some c; upper = Some d } ∷ []

-- a single span between two cuts, where it is told whether it is one version
between_printed : (domain : Domain) (c d : Cut Fields) (text : List ℕ) → IsSpans order_of (between_cuts c d)
    → EachVersion IsVersion (between_cuts c d) → (one : Bool) → is_one_version domain c d ≡ one
    → back_by (if one then Some c.version else None) domain (between_cuts c d) ≡ Ok text → IsPrinted domain (between_cuts c d) text
between_printed domain c d text is each true told made = record {
  constructs = Equal c.version ∷ [];
  written = cc made;
  each = (each.0.0, tt);
  says = λ v within. or-false _ ∙ sym (and-true _ ∙ one_says domain v c d within told);
}
between_printed domain c d text is each false told made = several_printed domain (between_cuts c d) text is each made

single_printed : (domain : Domain) (lower upper : Option (Cut Fields)) (text : List ℕ)
    → IsSpans order_of (record { lower = lower; upper = upper } ∷ []) → EachVersion IsVersion (record { lower = lower; upper = upper } ∷ [])
    → back domain (record { lower = lower; upper = upper } ∷ []) ≡ Ok text
    → IsPrinted domain (record { lower = lower; upper = upper } ∷ []) text
single_printed domain (Some c) (Some d) text is each made = between_printed domain c d text is each (is_one_version domain c d) refl made
single_printed domain (Some c) None text is each made =
    several_printed domain (record { lower = Some c; upper = None } ∷ []) text is each made
single_printed domain None upper text is each made = several_printed domain (record { lower = None; upper = upper } ∷ []) text is each made

printed : (domain : Domain) (spans : List (Span Fields)) (text : List ℕ) → IsSpans order_of spans → EachVersion IsVersion spans
    → back domain spans ≡ Ok text → IsPrinted domain spans text
printed domain [] text is each made = several_printed domain [] text is each made
printed domain (span ∷ []) text is each made = single_printed domain span.lower span.upper text is each made
printed domain (span ∷ next ∷ spans) text is each made = several_printed domain (span ∷ next ∷ spans) text is each made

-- ---- the law

terms_are : (constructs : List Construct) (v : Fields) → terms_hold holds (map one constructs) v ≡ hold constructs v
terms_are [] v = refl
terms_are (c ∷ constructs) v = λ i. or-false (holds c v) i && terms_are constructs v i

one_reads : (text : List ℕ) (a b : List (List Construct)) → Reads IsCut ReadsAs text a → Reads IsCut ReadsAs text b → a ≡ b
one_reads = reads_one ReadsAs IsPast pypi_pieces IsCut pypi_cuts

prints : (domain : Domain) (spans : List (Span Fields)) (text : List ℕ) → IsPrinted domain spans text
    → PrintsSpans order_of IsVersion (IsOf domain) IsRange In spans text
prints domain spans text is =
    let all = map one is.constructs in
    let reads : Reads IsCut ReadsAs text all =
    subst (λ (t : List ℕ). Reads IsCut ReadsAs t all) is.written (written_reads is.constructs is.each) in
    record {
      range = (all, reads);
      members = λ v version within. (
        λ held. is.says v within ∙ sym (terms_are is.constructs v)
            ∙ ap (λ (found : List (List Construct)). terms_hold holds found v) (one_reads text all held.0 reads held.1) ∙ held.2,
        λ held. (all, reads, terms_are is.constructs v ∙ sym (is.says v within) ∙ held),
      );
    }

pub pypi_backs : BackLaws order_of IsVersion (by_domain (λ _. ⊤) IsRelease) IsRange In back
pypi_backs = record { backward = λ domain spans text is each made. prints domain spans text (printed domain spans text is each made) }
