-- What Debian's range language promises of the way back: the text of spans holds what the spans hold.
use Rattle.std.proofs.Common.{◌≡◌, ◌≢◌, ◌&&◌, ◌||◌, not, ℕ, Bool, true, false, List, [], ◌∷◌, refl, sym, ap, ◌∙◌, subst, inl, inr, Option, Some, None, Ok}
use Rattle.std.specs.Prelude.{⊤}
use Rattle.std.specs.List.{AllByRecursion}
use Rattle.std.specs.Ordering.{is_eq, is_le, is_gt}
use Rattle.std.specs.Cmp.{alike_right}
use Rattle.std.proofs.Math.Bool.{or-false, and-true}
use Rattle.std.proofs.lemmas.Bool.{cases_Bool}
use Rattle.vx_scheme.specs.declared.domain.Domain.{Domain}
use Rattle.vx_scheme.specs.declared.span.Cut.{Cut}
use Rattle.vx_scheme.specs.declared.span.Span.{Span}
use Rattle.vx_scheme.specs.Cuts.{stands_below, cut_below, in_spans, cuts_of, starts_of, spans_of}
use Rattle.vx_scheme.specs.Native.{BackLaws, PrintsSpans, IsSpans, EachVersion, by_domain}
use Rattle.deb_scheme.specs.Version.{Fields}
use Rattle.deb_scheme.specs.Spelling.{IsVersion, Spells}
use Rattle.deb_scheme.specs.Order.{order_of, order_total}
use Rattle.relation_ranges.specs.Deb.Reading.{DebRelation, Reads}
use Rattle.relation_ranges.specs.Comparison.{is_sign, is_so}
use Rattle.relation_ranges.specs.Bounds.{span_terms, upper_comparison}
use Rattle.relation_ranges.specs.Deb.Operators.{HasSigns, bar}
use Rattle.relation_ranges.specs.Deb.Holds.{holds}
use Rattle.vx_range.specs.Making.{terms_hold}
use Rattle.vx_range.specs.Spans.{is_point}
use Rattle.vx_range.specs.Laws.Points as points
use Rattle.vx_range.specs.Laws.Gaps.{IsRising, after_cut, equal_of}
use Rattle.relation_ranges.specs.Range.{relation_holds}
use Rattle.relation_ranges.specs.Deb.Range.{IsRange, In}
use Rattle.relation_ranges.specs.Laws.Bounds as bounds
use Rattle.relation_ranges.specs.Laws.Back.{lower_first, upper_first, terms_print}
use Rattle.relation_ranges.specs.Laws.Compared.{lower_by, upper_by}
use Rattle.relation_ranges.specs.Laws.DebRange.{one_reads}
use Rattle.relation_ranges.specs.Deb.Back.{range_text, lower_relation, upper_relation, upper_end, gap_end, terms_behind, back_terms, back}
use Rattle.relation_ranges.specs.Laws.DebWritten.{TermIs, written_read}

-- the relation holds of the version
abbrev is_held : DebRelation → Fields → Bool
is_held = relation_holds holds

-- ---- bounds

over_after : (bound v : Fields) → stands_below (order_of bound v) true ≡ is_gt (order_of v bound)
over_after = points.over_after order_of order_total

under_after : (bound v : Fields) → not (stands_below (order_of bound v) true) ≡ is_le (order_of v bound)
under_after = points.under_after order_of order_total

lower_says : (v : Fields) (cut : Cut Fields) → is_held (lower_relation cut) v ≡ cut_below order_of cut v
lower_says v cut = lower_by order_of order_total cut.after cut.version v

upper_says : (v : Fields) (cut : Cut Fields) → is_held (upper_relation cut) v ≡ not (cut_below order_of cut v)
upper_says v cut = upper_by order_of order_total cut.after cut.version v

lower_one : (v : Fields) (cut : Cut Fields) → (is_held (lower_relation cut) v || false) ≡ cut_below order_of cut v
lower_one v cut = bounds.lower_one (λ c. c) order_of order_total holds v (λ _ _. ⊤) (λ _ _ _. refl) cut tt

upper_one : (v : Fields) (cut : Cut Fields) → (is_held (upper_relation cut) v || false) ≡ not (cut_below order_of cut v)
upper_one v cut = bounds.upper_one (λ c. c) order_of order_total holds v (λ _ _. ⊤) (λ _ _ _. refl) cut tt

-- ---- behind an upper bound, with the cuts behind it

-- the lower bound behind a gap, of which a hole has the version before it
later_says : (c d : Bool) (a b v : Fields) → ((not c && d) && is_eq (order_of a b)) ≡ true → is_gt (order_of v a) ≡ stands_below (order_of b v) d
later_says false true a b v is = ap is_gt (alike_right order_total a b v (equal_of (order_of a b) is)) ∙ sym (over_after b v)
later_says false false a b v is = absurd (cc is)
later_says true d a b v is = absurd (cc is)

end_says : (v : Fields) (d e : Cut Fields) → is_held (gap_end d e) v ≡ cut_below order_of e v
end_says v d e = elim (cases_Bool (is_point order_of d e)) [
  | inl is ↦ rw is (later_says d.after e.after d.version e.version v is)
  | inr other ↦ rw other (lower_says v e)
]

-- the upper bound of a span, of which a point has the version before it
point_end_says : (c d : Bool) (a b v : Fields) → ((not c && d) && is_eq (order_of a b)) ≡ true → is_so (upper_comparison d) (order_of v a) ≡ not (stands_below (order_of b v) d)
point_end_says false true a b v is = ap is_le (alike_right order_total a b v (equal_of (order_of a b) is)) ∙ sym (under_after b v)
point_end_says false false a b v is = absurd (cc is)
point_end_says true d a b v is = absurd (cc is)

upper_end_says : (v : Fields) (before : Option (Cut Fields)) (d : Cut Fields) → is_held (upper_end before d) v ≡ not (cut_below order_of d v)
upper_end_says v None d = upper_says v d
upper_end_says v (Some c) d = elim (cases_Bool (is_point order_of c d)) [
  | inl is ↦ rw is (point_end_says c.after d.after c.version d.version v is)
  | inr other ↦ rw other (upper_says v d)
]

gap_says : (v : Fields) (before : Option (Cut Fields)) (d e : Cut Fields) → (is_held (upper_end before d) v || (is_held (gap_end d e) v || false)) ≡ (not (cut_below order_of d v) || cut_below order_of e v)
gap_says v before d e = λ i. upper_end_says v before d i || (or-false _ ∙ end_says v d e) i

behind_says : (v : Fields) (before : Option (Cut Fields)) (d : Cut Fields) (cuts : List (Cut Fields)) → terms_hold is_held (terms_behind before (Some d) (spans_of false cuts)) v ≡ after_cut order_of v d cuts
behind_says v before d [] = and-true _ ∙ or-false _ ∙ upper_end_says v before d
behind_says v before d (e ∷ []) = and-true _ ∙ gap_says v before d e
behind_says v before d (e ∷ f ∷ cuts) = λ i. gap_says v before d e i && behind_says v (Some e) f cuts i

-- ---- a single span

pair_says : (v : Fields) (c d : Cut Fields) → terms_hold is_held (span_terms (λ c. c) order_of (Some c) (Some d)) v ≡ (cut_below order_of c v && not (cut_below order_of d v))
pair_says v c d = bounds.pair_says (λ c. c) order_of order_total holds v (λ _ _. ⊤) (λ _ _ _. refl) c d tt tt (λ _. tt)

-- ---- all spans

spans_hold : (v : Fields) (starts : Bool) (cuts : List (Cut Fields)) → IsRising order_of cuts → spans_of starts cuts ≢ [] → in_spans order_of (spans_of starts cuts) v ≡ terms_hold is_held (back_terms (spans_of starts cuts)) v
spans_hold v false [] rising some = absurd (some refl)
spans_hold v false (c ∷ []) rising some = or-false _ ∙ and-true _ ∙ sym (and-true _ ∙ lower_one v c)
spans_hold v false (c ∷ d ∷ []) rising some = or-false _ ∙ sym (pair_says v c d)
spans_hold v false (c ∷ d ∷ e ∷ []) rising some = lower_first order_of order_total v c d (e ∷ []) rising ∙ sym (λ i. lower_one v c i && behind_says v (Some c) d (e ∷ []) i)
spans_hold v false (c ∷ d ∷ e ∷ f ∷ cuts) rising some = lower_first order_of order_total v c d (e ∷ f ∷ cuts) rising ∙ sym (λ i. lower_one v c i && behind_says v (Some c) d (e ∷ f ∷ cuts) i)
spans_hold v true [] rising some = refl
spans_hold v true (c ∷ []) rising some = or-false _ ∙ sym (and-true _ ∙ upper_one v c)
spans_hold v true (c ∷ e ∷ []) rising some = upper_first order_of order_total v c (e ∷ []) rising ∙ sym (behind_says v None c (e ∷ []))
spans_hold v true (c ∷ e ∷ f ∷ cuts) rising some = upper_first order_of order_total v c (e ∷ f ∷ cuts) rising ∙ sym (behind_says v None c (e ∷ f ∷ cuts))

-- the terms are of one relation or two, of versions
end_is : (d e : Cut Fields) → IsVersion d.version → IsVersion e.version → IsVersion (gap_end d e).version
end_is d e p q = elim (cases_Bool (is_point order_of d e)) [
  | inl is ↦ rw is p
  | inr other ↦ rw other q
]

-- the cut, where there is one, has a version
abbrev BeforeIs : Option (Cut Fields) → Type 0
BeforeIs None = ⊤
BeforeIs (Some cut) = IsVersion cut.version

upper_end_is : (before : Option (Cut Fields)) (d : Cut Fields) → BeforeIs before → IsVersion d.version → IsVersion (upper_end before d).version
upper_end_is None d p q = q
upper_end_is (Some c) d p q = elim (cases_Bool (is_point order_of c d)) [
  | inl is ↦ rw is p
  | inr other ↦ rw other q
]

behind_is : (before : Option (Cut Fields)) (d : Cut Fields) (cuts : List (Cut Fields)) → BeforeIs before → IsVersion d.version → EachVersion IsVersion (spans_of false cuts) → AllByRecursion TermIs (terms_behind before (Some d) (spans_of false cuts))
behind_is before d [] p is each = (upper_end_is before d p is, tt)
behind_is before d (e ∷ []) p is each = ((upper_end_is before d p is, end_is d e is each.0.0), tt)
behind_is before d (e ∷ f ∷ cuts) p is each = ((upper_end_is before d p is, end_is d e is each.0.0), behind_is (Some e) f cuts each.0.0 each.0.1 each.1)

terms_are : (starts : Bool) (cuts : List (Cut Fields)) → EachVersion IsVersion (spans_of starts cuts) → AllByRecursion TermIs (back_terms (spans_of starts cuts))
terms_are false [] each = tt
terms_are false (c ∷ []) each = (each.0.0, tt)
terms_are false (c ∷ d ∷ []) each = bounds.span_are (λ c. c) order_of IsVersion true (Some c) (Some d) each.0.0 each.0.1
terms_are false (c ∷ d ∷ e ∷ []) each = (each.0.0, behind_is (Some c) d (e ∷ []) each.0.0 each.0.1 each.1)
terms_are false (c ∷ d ∷ e ∷ f ∷ cuts) each = (each.0.0, behind_is (Some c) d (e ∷ f ∷ cuts) each.0.0 each.0.1 each.1)
terms_are true [] each = tt
terms_are true (c ∷ []) each = (each.0.1, tt)
terms_are true (c ∷ e ∷ []) each = behind_is None c (e ∷ []) tt each.0.1 each.1
terms_are true (c ∷ e ∷ f ∷ cuts) each = behind_is None c (e ∷ f ∷ cuts) tt each.0.1 each.1

-- ---- the law

-- what is said of spans
record IsPrinted (spans : List (Span Fields)) : Type 0 where
  terms : AllByRecursion TermIs (back_terms spans)
  members : (v : Fields) → in_spans order_of spans v ≡ terms_hold is_held (back_terms spans) v

printed : (spans : List (Span Fields)) → IsSpans order_of spans → EachVersion IsVersion spans → IsPrinted spans
printed spans is each =
    let apart = is.in_order.apart in
    let starts = starts_of spans in
    let cuts = cuts_of spans in
    subst IsPrinted apart (record {
      terms = terms_are starts cuts (subst (EachVersion IsVersion) (sym apart) each);
      members = λ v. spans_hold v starts cuts is.in_order.rising (subst (λ (s : List (Span Fields)). s ≢ []) (sym apart) is.some);
    })

prints : (domain : Domain) (spans : List (Span Fields)) (text : List ℕ) → IsSpans order_of spans → EachVersion IsVersion spans → back domain spans ≡ Ok text
    → PrintsSpans order_of IsVersion (by_domain (λ _. ⊤) (λ _. ⊤) domain) IsRange In spans text
prints domain spans text is each made =
    let e : range_text (back_terms spans) ≡ text = cc made in
    let said = printed spans is each in
    let terms = back_terms spans in
    let reads : Reads text terms = subst (λ t. Reads t terms) e (written_read terms said.terms) in
    terms_print (Some bar) is_sign HasSigns Spells one_reads order_of IsVersion (by_domain (λ _. ⊤) (λ _. ⊤) domain) holds spans text terms reads (λ v within. said.members v)

pub deb_backs : BackLaws order_of IsVersion (by_domain (λ _. ⊤) (λ _. ⊤)) IsRange In back
deb_backs = record { backward = prints }
