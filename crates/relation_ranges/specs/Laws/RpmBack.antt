-- What RPM's range language promises of the way back: the text of spans holds what the spans hold.
use Rattle.std.proofs.Common.{◌≡◌, ◌&&◌, ◌||◌, not, ℕ, Bool, true, false, List, [], ◌∷◌, map, refl, sym, ap, ◌∙◌, subst, inl, inr, Option, Some, None, Ok}
use Rattle.std.specs.List.{AllByRecursion}
use Rattle.std.specs.Ordering.{is_eq, is_lt, bool_cmp, ordering_reverse, ordering_then}
use Rattle.std.specs.declared.cmp.Ordering.{Ordering}
use Rattle.std.specs.declared.cmp.Ordering.TheVariants as ordering
use Rattle.std.proofs.Math.Bool.{or-false, or-true, and-true}
use Rattle.std.proofs.lemmas.Bool.{and_parts, cases_Bool}
use Rattle.vx_spec.specs.Ascending.{IsAscending}
use Rattle.vx_scheme.specs.declared.domain.Domain.{Domain}
use Rattle.vx_scheme.specs.declared.domain.Domain.TheVariants.{All, Releases}
use Rattle.vx_scheme.specs.declared.span.Cut.{Cut}
use Rattle.vx_scheme.specs.declared.span.Span.{Span}
use Rattle.vx_scheme.specs.Cuts.{stands_below, cut_below, cut_cmp, is_over, is_under, in_span, in_spans, cuts_of, starts_of, spans_of}
use Rattle.vx_scheme.specs.Native.{BackLaws, PrintsSpans, IsSpans, EachVersion, CutIs, by_domain}
use Rattle.vx_scheme.proofs.CutLaws.{cut_below-lower}
use Rattle.vx_range.specs.Making.{terms_hold}
use Rattle.vx_range.specs.Spans.{is_point}
use Rattle.rpm_scheme.specs.Version.{Fields, HasRelease, IsWithoutRelease}
use Rattle.rpm_scheme.specs.Spelling.{IsVersion, Spells}
use Rattle.rpm_scheme.specs.Order.{order_of, order_total}
use Rattle.rpm_scheme.proofs.ReleaseLaws.{front_spells}
use Rattle.relation_ranges.specs.declared.comparison.Comparison.{Comparison}
use Rattle.relation_ranges.specs.declared.comparison.Comparison.TheVariants.{Equal}
use Rattle.relation_ranges.specs.Comparison.{is_sign, is_so}
use Rattle.relation_ranges.specs.Range.{relation_holds}
use Rattle.relation_ranges.specs.Bounds.{lower_comparison, lower_relation, span_terms, upper_comparison, upper_relation}
use Rattle.relation_ranges.specs.Rpm.Reading.{HasSigns, RpmRelation, Reads}
use Rattle.relation_ranges.specs.Rpm.Holds.{holds}
use Rattle.relation_ranges.specs.Rpm.Range.{IsRange, In}
use Rattle.relation_ranges.specs.Rpm.Spans.{has_release, is_open, named_in}
use Rattle.relation_ranges.specs.Rpm.Back.{back, joined_from, joined_spans, kept, meets, moved, moved_bound, moved_span, range_text, text_of}
use Rattle.vx_range.specs.Laws.Gaps.{equal_of}
use Rattle.relation_ranges.specs.Laws.Bounds as bounds
use Rattle.relation_ranges.specs.Laws.Back.{terms_print}
use Rattle.relation_ranges.specs.Laws.RpmOrder.{Fits, equal_has, named_none, same_in}
use Rattle.relation_ranges.specs.Laws.RpmRange.{one_reads}
use Rattle.relation_ranges.specs.Laws.RpmTable.{moved_parts}
use Rattle.relation_ranges.specs.Laws.RpmWords.{TermIs, written_read}

-- the relation holds of the version
abbrev is_held : RpmRelation → Fields → Bool
is_held = relation_holds holds

abbrev hold : List (List RpmRelation) → Fields → Bool
hold = terms_hold is_held

abbrev InDomain : Domain → Fields → Type 0
InDomain = by_domain HasRelease IsWithoutRelease

-- ---- where a version stands against the cuts of spans

-- above a lower cut, and above an upper cut
abbrev over : Fields → Option (Cut Fields) → Bool
over v cut = is_over (λ c. cut_below order_of c v) cut

abbrev past : Fields → Option (Cut Fields) → Bool
past v None = false
past v (Some cut) = cut_below order_of cut v

under_is : (v : Fields) (cut : Option (Cut Fields)) → is_under (λ c. cut_below order_of c v) cut ≡ not (past v cut)
under_is v None = refl
under_is v (Some cut) = refl

span_is : (v : Fields) (span : Span Fields) → in_span order_of span v ≡ (over v span.lower && not (past v span.upper))
span_is v span = ap (λ u. over v span.lower && u) (under_is v span.upper)

-- a version that is above a cut is above those before it
abbrev IsChain : Fields → List (Span Fields) → Type 0
IsChain v [] = Unit {0}
IsChain v (span ∷ spans) = (past v span.upper ≡ true → over v span.lower ≡ true) × AllByRecursion (λ later. over v later.lower ≡ true → past v span.upper ≡ true) spans × IsChain v spans

later_over : (v : Fields) (d : Cut Fields) (cuts : List (Cut Fields)) → AllByRecursion (λ later. cut_cmp order_of d later ≡ ordering.Less) cuts
    → AllByRecursion (λ later. over v later.lower ≡ true → cut_below order_of d v ≡ true) (spans_of false cuts)
later_over v d [] rising = tt
later_over v d (c ∷ []) rising = (cut_below-lower order_of order_total d c v rising.0, tt)
later_over v d (c ∷ e ∷ cuts) rising = (cut_below-lower order_of order_total d c v rising.0, later_over v d cuts rising.1.1)

chain_of : (v : Fields) (cuts : List (Cut Fields)) → IsAscending (cut_cmp order_of) cuts → IsChain v (spans_of false cuts)
chain_of v [] rising = tt
chain_of v (c ∷ []) rising = (λ e. cc e, tt, tt)
chain_of v (c ∷ d ∷ cuts) rising = (cut_below-lower order_of order_total c d v rising.0.0, later_over v d cuts rising.1.0, chain_of v cuts rising.1.1)

chain_from : (v : Fields) (starts : Bool) (cuts : List (Cut Fields)) → IsAscending (cut_cmp order_of) cuts → IsChain v (spans_of starts cuts)
chain_from v false cuts rising = chain_of v cuts rising
chain_from v true [] rising = (λ e. refl, tt, tt)
chain_from v true (c ∷ cuts) rising = (λ e. refl, later_over v c cuts rising.0, chain_of v cuts rising.1)

-- ---- moved spans

module _ (domain : Domain) (v : Fields) (within : InDomain domain v) where
  over_moved : (cut : Option (Cut Fields)) → over v (moved_bound domain cut) ≡ over v cut
  over_moved None = refl
  over_moved (Some cut) = moved_parts domain cut v within

  past_moved : (cut : Option (Cut Fields)) → past v (moved_bound domain cut) ≡ past v cut
  past_moved None = refl
  past_moved (Some cut) = moved_parts domain cut v within

  later_moved : (upper : Option (Cut Fields)) (spans : List (Span Fields)) → AllByRecursion (λ later. over v later.lower ≡ true → past v upper ≡ true) spans
      → AllByRecursion (λ later. over v later.lower ≡ true → past v (moved_bound domain upper) ≡ true) (map (moved_span domain) spans)
  later_moved upper [] all = tt
  later_moved upper (span ∷ spans) all = (λ above. past_moved upper ∙ all.0 (sym (over_moved span.lower) ∙ above), later_moved upper spans all.1)

  chain_moved : (spans : List (Span Fields)) → IsChain v spans → IsChain v (map (moved_span domain) spans)
  chain_moved [] chain = tt
  chain_moved (span ∷ spans) chain =
      (λ above. over_moved span.lower ∙ chain.0 (sym (past_moved span.upper) ∙ above), later_moved span.upper spans chain.1, chain_moved spans chain.2)

  span_moved : (span : Span Fields) → in_span order_of (moved_span domain span) v ≡ in_span order_of span v
  span_moved span = span_is v (moved_span domain span) ∙ (λ i. over_moved span.lower i && not (past_moved span.upper i)) ∙ sym (span_is v span)

  spans_moved : (spans : List (Span Fields)) → in_spans order_of (map (moved_span domain) spans) v ≡ in_spans order_of spans v
  spans_moved [] = refl
  spans_moved (span ∷ spans) = λ i. span_moved span i || spans_moved spans i

-- ---- spans that hold nothing are dropped

not_below_by : (a b v : Fields) (c d : Bool) (o : Ordering) → order_of a b ≡ o → not (is_lt (ordering_then o (bool_cmp c d))) ≡ true → stands_below (order_of a v) c ≡ true → stands_below (order_of b v) d ≡ true
not_below_by a b v c d ordering.Less e not_lower above = cc not_lower
not_below_by a b v c d ordering.Greater e not_lower above =
    cut_below-lower order_of order_total (record { version = b; after = d; mark = 0 }) (record { version = a; after = c; mark = 0 }) v
    (ap (λ r. ordering_then r (bool_cmp d c)) (order_total.antisymm b a ∙ ap ordering_reverse e)) above
not_below_by a b v false false ordering.Equal e not_lower above = ap (λ r. stands_below r false) (sym (order_total.congr a b v e)) ∙ above
not_below_by a b v true true ordering.Equal e not_lower above = ap (λ r. stands_below r true) (sym (order_total.congr a b v e)) ∙ above
not_below_by a b v false true ordering.Equal e not_lower above = cc not_lower
not_below_by a b v true false ordering.Equal e not_lower above = earlier (order_of b v) (ap (λ r. stands_below r true) (sym (order_total.congr a b v e)) ∙ above)
  where
    earlier : (p : Ordering) → stands_below p true ≡ true → stands_below p false ≡ true
    earlier ordering.Less above' = refl
    earlier ordering.Equal above' = cc above'
    earlier ordering.Greater above' = cc above'

-- a version above the first cut is above the second
met : (v : Fields) (a b : Option (Cut Fields)) → meets a b ≡ true → over v a ≡ true → past v b ≡ true
met v None b is above = cc is
met v (Some c) None is above = cc is
met v (Some c) (Some d) is above = not_below_by c.version d.version v c.after d.after (order_of c.version d.version) refl is above

met_past : (v : Fields) (a b : Option (Cut Fields)) → meets a b ≡ true → past v a ≡ true → over v b ≡ true
met_past v None b is above = cc is
met_past v (Some c) None is above = cc is
met_past v (Some c) (Some d) is above = not_below_by c.version d.version v c.after d.after (order_of c.version d.version) refl is above

none_in : (x y : Bool) → (x ≡ true → y ≡ true) → (x && not y) ≡ false
none_in false y f = refl
none_in true y f = ap not (f refl)

nothing_held : (v : Fields) (span : Span Fields) → meets span.lower span.upper ≡ true → in_span order_of span v ≡ false
nothing_held v span is = span_is v span ∙ none_in (over v span.lower) (past v span.upper) (met v span.lower span.upper is)

each_kept : (P : Span Fields → Type 0) (spans : List (Span Fields)) → AllByRecursion P spans → AllByRecursion P (kept spans)
each_kept P [] all = tt
each_kept P (span ∷ spans) all = elim (cases_Bool (meets span.lower span.upper)) [
  | inl is ↦ rw is (each_kept P spans all.1)
  | inr other ↦ rw other (all.0, each_kept P spans all.1)
]

chain_kept : (v : Fields) (spans : List (Span Fields)) → IsChain v spans → IsChain v (kept spans)
chain_kept v [] chain = tt
chain_kept v (span ∷ spans) chain = elim (cases_Bool (meets span.lower span.upper)) [
  | inl is ↦ rw is (chain_kept v spans chain.2)
  | inr other ↦ rw other (chain.0, each_kept (λ later. over v later.lower ≡ true → past v span.upper ≡ true) spans chain.1, chain_kept v spans chain.2)
]

spans_kept : (v : Fields) (spans : List (Span Fields)) → in_spans order_of (kept spans) v ≡ in_spans order_of spans v
spans_kept v [] = refl
spans_kept v (span ∷ spans) = elim (cases_Bool (meets span.lower span.upper)) [
  | inl is ↦ rw is (spans_kept v spans ∙ ap (λ held. held || in_spans order_of spans v) (sym (nothing_held v span is)))
  | inr other ↦ rw other (ap (λ more. in_span order_of span v || more) (spans_kept v spans))
]

-- ---- spans that touch are joined

abbrev both : Span Fields → Span Fields → Span Fields
both span next = record { lower = span.lower; upper = next.upper }

touching : (a x y z : Bool) → (x ≡ true → a ≡ true) → (y ≡ true → x ≡ true) → (z ≡ true → y ≡ true) → (x ≡ true → y ≡ true) → (a && not z) ≡ ((a && not x) || (y && not z))
touching a true false z f g h k = cc (k refl)
touching false true true z f g h k = cc (f refl)
touching true true true z f g h k = refl
touching a false true z f g h k = cc (g refl)
touching a false false true f g h k = cc (h refl)
touching a false false false f g h k = sym (or-false _)

or_assoc : (a b c : Bool) → ((a || b) || c) ≡ (a || (b || c))
or_assoc true b c = refl
or_assoc false b c = refl

spans_joined : (v : Fields) (span : Span Fields) (spans : List (Span Fields)) → IsChain v (span ∷ spans) → in_spans order_of (joined_from span spans) v ≡ (in_span order_of span v || in_spans order_of spans v)
spans_joined v span [] chain = refl
spans_joined v span (next ∷ spans) chain = elim (cases_Bool (meets span.upper next.lower)) [
  | inl is ↦ rw is (
      let whole = spans_joined v (both span next) spans (λ p. chain.0 (chain.1.0 (chain.2.0 p)), chain.2.1, chain.2.2) in
      let parts = touching (over v span.lower) (past v span.upper) (over v next.lower) (past v next.upper) chain.0 chain.1.0 chain.2.0 (met_past v span.upper next.lower is) in
      let held : in_span order_of (both span next) v ≡ (in_span order_of span v || in_span order_of next v) =
      span_is v (both span next) ∙ parts ∙ (λ i. sym (span_is v span) i || sym (span_is v next) i) in
      whole ∙ ap (λ h. h || in_spans order_of spans v) held ∙ or_assoc (in_span order_of span v) (in_span order_of next v) (in_spans order_of spans v))
  | inr other ↦ rw other (ap (λ more. in_span order_of span v || more) (spans_joined v next spans chain.2))
]

all_joined : (v : Fields) (spans : List (Span Fields)) → IsChain v spans → in_spans order_of (joined_spans spans) v ≡ in_spans order_of spans v
all_joined v [] chain = refl
all_joined v (span ∷ spans) chain = spans_joined v span spans chain

-- ---- the cuts that are left are moved cuts, at versions

abbrev FitCut : Domain → Cut Fields → Type 0
FitCut All cut = cut.after ≡ true → has_release cut.version ≡ true
FitCut Releases cut = cut.version.release ≡ None

abbrev IsMoved : Domain → Option (Cut Fields) → Type 0
IsMoved domain None = Unit {0}
IsMoved domain (Some cut) = FitCut domain cut × IsVersion cut.version

abbrev AreMoved : Domain → Span Fields → Type 0
AreMoved domain span = IsMoved domain span.lower × IsMoved domain span.upper

moved_fits : (domain : Domain) (cut : Cut Fields) → FitCut domain (moved domain cut)
moved_fits All cut = λ after. (and_parts cut.after (has_release cut.version) after).1
moved_fits Releases cut = named_none cut.version

named_version : (domain : Domain) (v : Fields) → IsVersion v → IsVersion (named_in domain v)
named_version All v is = is
named_version Releases v is = elim (cases_Bool (has_release v)) [
  | inl has ↦ rw has (front_spells v is)
  | inr other ↦ rw other is
]

cut_is_moved : (domain : Domain) (cut : Option (Cut Fields)) → CutIs IsVersion cut → IsMoved domain (moved_bound domain cut)
cut_is_moved domain None is = tt
cut_is_moved domain (Some cut) is = (moved_fits domain cut, named_version domain cut.version is)

each_moved : (domain : Domain) (spans : List (Span Fields)) → EachVersion IsVersion spans → AllByRecursion (AreMoved domain) (map (moved_span domain) spans)
each_moved domain [] each = tt
each_moved domain (span ∷ spans) each = ((cut_is_moved domain span.lower each.0.0, cut_is_moved domain span.upper each.0.1), each_moved domain spans each.1)

each_from : (domain : Domain) (span : Span Fields) (spans : List (Span Fields)) → AreMoved domain span → AllByRecursion (AreMoved domain) spans → AllByRecursion (AreMoved domain) (joined_from span spans)
each_from domain span [] is all = (is, tt)
each_from domain span (next ∷ spans) is all = elim (cases_Bool (meets span.upper next.lower)) [
  | inl touch ↦ rw touch (each_from domain (both span next) spans (is.0, all.0.1) all.1)
  | inr other ↦ rw other (is, each_from domain next spans all.0 all.1)
]

each_joined : (domain : Domain) (spans : List (Span Fields)) → AllByRecursion (AreMoved domain) spans → AllByRecursion (AreMoved domain) (joined_spans spans)
each_joined domain [] all = tt
each_joined domain (span ∷ spans) all = each_from domain span spans all.0 all.1

-- ---- the terms of one span

lower_open : (after has : Bool) → (after ≡ true → has ≡ true) → (has || is_open (lower_comparison after)) ≡ true
lower_open false has f = or-true has
lower_open true has f = ap (λ h. h || false) (f refl)

upper_open : (after has : Bool) → (after ≡ true → has ≡ true) → (has || is_open (upper_comparison after)) ≡ true
upper_open false has f = or-true has
upper_open true has f = ap (λ h. h || false) (f refl)

lower_fits : (domain : Domain) (cut : Cut Fields) → FitCut domain cut → Fits domain (lower_comparison cut.after) cut.version
lower_fits All cut fits = lower_open cut.after (has_release cut.version) fits
lower_fits Releases cut fits = fits

upper_fits : (domain : Domain) (cut : Cut Fields) → FitCut domain cut → Fits domain (upper_comparison cut.after) cut.version
upper_fits All cut fits = upper_open cut.after (has_release cut.version) fits
upper_fits Releases cut fits = fits

point_parts : (c d e : Bool) → ((not c && d) && e) ≡ true → (d ≡ true) × (e ≡ true)
point_parts c d e is =
    let a = and_parts (not c && d) e is in
    ((and_parts (not c) d a.0).1, a.1)

point_fits : (domain : Domain) (c d : Cut Fields) → is_point order_of c d ≡ true → FitCut domain c → FitCut domain d → Fits domain Equal c.version
point_fits All c d is fits fits' =
    let parts = point_parts c.after d.after (is_eq (order_of c.version d.version)) is in
    ap (λ h. h || false) (equal_has c.version d.version (equal_of (order_of c.version d.version) parts.1) (fits' parts.0))
point_fits Releases c d is fits fits' = fits

module _ (domain : Domain) (v : Fields) (within : InDomain domain v) where
  tested : (how : Comparison) (bound : Fields) → Fits domain how bound → holds how bound v ≡ is_so how (order_of v bound)
  tested how bound fits = sym (same_in domain how bound v within fits)

  lower_one : (cut : Cut Fields) → FitCut domain cut → (is_held (lower_relation (λ c. c) cut) v || false) ≡ cut_below order_of cut v
  lower_one cut fits = bounds.lower_one (λ c. c) order_of order_total holds v (Fits domain) tested cut (lower_fits domain cut fits)

  upper_one : (cut : Cut Fields) → FitCut domain cut → (is_held (upper_relation (λ c. c) cut) v || false) ≡ not (cut_below order_of cut v)
  upper_one cut fits = bounds.upper_one (λ c. c) order_of order_total holds v (Fits domain) tested cut (upper_fits domain cut fits)

  span_says : (lower upper : Option (Cut Fields)) → IsMoved domain lower → IsMoved domain upper
      → hold (span_terms (λ c. c) order_of lower upper) v ≡ (over v lower && not (past v upper))
  span_says None None p q = refl
  span_says None (Some d) p q = and-true _ ∙ upper_one d q.0
  span_says (Some c) None p q = λ i. lower_one c p.0 i && true
  span_says (Some c) (Some d) p q =
      bounds.pair_says (λ c. c) order_of order_total holds v (Fits domain) tested c d (lower_fits domain c p.0) (upper_fits domain d q.0) (λ is. point_fits domain c d is p.0 q.0)

moved_is : (domain : Domain) (cut : Option (Cut Fields)) → IsMoved domain cut → CutIs IsVersion cut
moved_is domain None p = tt
moved_is domain (Some cut) p = p.1

span_terms_are : (domain : Domain) (lower upper : Option (Cut Fields)) → IsMoved domain lower → IsMoved domain upper → AllByRecursion TermIs (span_terms (λ c. c) order_of lower upper)
span_terms_are domain lower upper p q = bounds.span_are (λ c. c) order_of IsVersion false lower upper (moved_is domain lower p) (moved_is domain upper q)

-- ---- the law

-- one span has a text
record IsText (spans : List (Span Fields)) (text : List ℕ) : Type 0 where
  span : Span Fields
  single : spans ≡ span ∷ []
  made : range_text (span_terms (λ c. c) order_of span.lower span.upper) ≡ text

is_text : (spans : List (Span Fields)) (text : List ℕ) → text_of spans ≡ Ok text → IsText spans text
is_text [] text made = cc made
is_text (span ∷ []) text made = record { span = span; single = refl; made = cc made }
is_text (span ∷ next ∷ spans) text made = cc made

abbrev left : Domain → List (Span Fields) → List (Span Fields)
left domain spans = joined_spans (kept (map (moved_span domain) spans))

-- what is left holds the same versions of the domain
left_say : (domain : Domain) (spans : List (Span Fields)) → IsSpans order_of spans → (v : Fields) → InDomain domain v → in_spans order_of (left domain spans) v ≡ in_spans order_of spans v
left_say domain spans is v within =
    let chain = subst (IsChain v) is.in_order.apart (chain_from v (starts_of spans) (cuts_of spans) is.in_order.rising) in
    let moved' = chain_moved domain v within spans chain in
    all_joined v (kept (map (moved_span domain) spans)) (chain_kept v (map (moved_span domain) spans) moved')
    ∙ spans_kept v (map (moved_span domain) spans) ∙ spans_moved domain v within spans

prints : (domain : Domain) (spans : List (Span Fields)) (text : List ℕ) → IsSpans order_of spans → EachVersion IsVersion spans → back domain spans ≡ Ok text
    → PrintsSpans order_of IsVersion (InDomain domain) IsRange In spans text
prints domain spans text is each made =
    let one = is_text (left domain spans) text made in
    let span = one.span in
    let moved' = subst (AllByRecursion (AreMoved domain)) one.single (each_joined domain (kept (map (moved_span domain) spans)) (each_kept (AreMoved domain) (map (moved_span domain) spans) (each_moved domain spans each))) in
    let terms = span_terms (λ c. c) order_of span.lower span.upper in
    let says : (v : Fields) → InDomain domain v → in_spans order_of spans v ≡ hold terms v =
    λ v within. sym (left_say domain spans is v within) ∙ ap (λ s. in_spans order_of s v) one.single ∙ or-false _ ∙ span_is v span ∙ sym (span_says domain v within span.lower span.upper moved'.0.0 moved'.0.1) in
    let reads : Reads text terms = subst (λ t. Reads t terms) one.made (written_read terms (span_terms_are domain span.lower span.upper moved'.0.0 moved'.0.1)) in
    terms_print None is_sign HasSigns Spells one_reads order_of IsVersion (InDomain domain) holds spans text terms reads says

pub rpm_backs : BackLaws order_of IsVersion InDomain IsRange In back
rpm_backs = record { backward = prints }
