-- What RubyGems' range language promises of the way back: the text of spans holds what the spans hold.
use Rattle.std.proofs.Common.{◌≡◌, ◌≢◌, ◌&&◌, ◌||◌, if◌then◌else◌, not, ℕ, Bool, true, false, List, [], ◌∷◌, ◌++◌, refl, sym, ap, ◌∙◌, subst, Option, Some, None, Ok}
use Rattle.std.specs.Prelude.{⊤}
use Rattle.std.specs.List.{AllByRecursion, list_any}
use Rattle.std.proofs.Math.Bool.{or-false, and-true}
use Rattle.std.proofs.lemmas.List.Folds.{list_all-append}
use Rattle.vx_spec.proofs.EachLaws.{each_append}
use Rattle.vx_scheme.specs.declared.domain.Domain.{Domain}
use Rattle.vx_scheme.specs.declared.span.Cut.{Cut}
use Rattle.vx_scheme.specs.declared.span.Span.{Span}
use Rattle.vx_scheme.specs.Cuts.{cut_below, in_spans, cuts_of, starts_of, spans_of}
use Rattle.vx_scheme.specs.Native.{BackLaws, PrintsSpans, IsSpans, EachVersion, CutIs, by_domain}
use Rattle.vx_range.specs.Making.{terms_hold}
use Rattle.vx_range.specs.Spans.{is_point}
use Rattle.gem_scheme.specs.Version.{Fields, IsRelease, IsVersion}
use Rattle.gem_scheme.specs.Order.{order_of, order_total}
use Rattle.gem_scheme.specs.Spelling.{Spells}
use Rattle.relation_ranges.specs.declared.gem.operators.Operator.TheVariants.{Compares, NotEqual}
use Rattle.relation_ranges.specs.Range.{relation_holds}
use Rattle.relation_ranges.specs.Bounds.{lower_relation, upper_relation, bound_term, span_terms}
use Rattle.relation_ranges.specs.Gem.Reading.{GemRelation, Reads}
use Rattle.relation_ranges.specs.Gem.Operators.{HasSigns, is_sign}
use Rattle.relation_ranges.specs.Gem.Holds.{holds}
use Rattle.relation_ranges.specs.Gem.Range.{IsRange, In}
use Rattle.relation_ranges.specs.Gem.Back.{range_text, hole_term, hole_terms, last_upper, back_terms, first_gap, text_unless, back}
use Rattle.relation_ranges.specs.Laws.Bounds as bounds
use Rattle.relation_ranges.specs.Laws.Back.{lower_first, upper_first, terms_print}
use Rattle.vx_range.specs.Laws.Gaps.{IsRising, after_cut, hole_says}
use Rattle.relation_ranges.specs.Laws.GemRange.{one_reads}
use Rattle.relation_ranges.specs.Laws.GemWords.{TermIs, written_read}

-- the requirement holds of the version
abbrev is_held : GemRelation → Fields → Bool
is_held = relation_holds holds

abbrev hold : List (List GemRelation) → Fields → Bool
hold = terms_hold is_held

-- ---- bounds and holes

lower_one : (v : Fields) (cut : Cut Fields) → (is_held (lower_relation Compares cut) v || false) ≡ cut_below order_of cut v
lower_one v cut = bounds.lower_one Compares order_of order_total holds v (λ _ _. ⊤) (λ _ _ _. refl) cut tt

upper_one : (v : Fields) (cut : Cut Fields) → (is_held (upper_relation Compares cut) v || false) ≡ not (cut_below order_of cut v)
upper_one v cut = bounds.upper_one Compares order_of order_total holds v (λ _ _. ⊤) (λ _ _ _. refl) cut tt

hole_one : (v : Fields) (d e : Cut Fields) → is_point order_of d e ≡ true → hold (hole_term (Some d)) v ≡ (not (cut_below order_of d v) || cut_below order_of e v)
hole_one v d e is = and-true _ ∙ or-false _ ∙ sym (hole_says order_of order_total d.after e.after d.version e.version v is)

-- ---- behind an upper cut, with the cuts behind it, where each gap is a hole

swap : (a b c : Bool) → (a && (b && c)) ≡ (b && (a && c))
swap true true c = refl
swap true false c = refl
swap false true c = refl
swap false false c = refl

-- a gap in which no refusal begins is a hole
hole_is : (is : Bool) (mark : ℕ) (rest : Option ℕ) → (if is then rest else Some mark) ≡ None → (is ≡ true) × (rest ≡ None)
hole_is true mark rest none = (refl, none)
hole_is false mark rest none = cc none

abbrev open_to : Option (Cut Fields) → Cut Fields → Span Fields
open_to before upper = record { lower = before; upper = Some upper }

behind_says : (v : Fields) (before : Option (Cut Fields)) (d : Cut Fields) (cuts : List (Cut Fields)) → first_gap (open_to before d ∷ spans_of false cuts) ≡ None
    → after_cut order_of v d cuts ≡ (hold (bound_term (upper_relation Compares) (last_upper (open_to before d) (spans_of false cuts))) v && hold (hole_terms (open_to before d ∷ spans_of false cuts)) v)
behind_says v before d [] none = sym (and-true _ ∙ and-true _ ∙ upper_one v d)
behind_says v before d (e ∷ []) none =
    let hole = hole_is (is_point order_of d e) e.mark None none in
    sym (hole_one v d e hole.0)
behind_says v before d (e ∷ f ∷ cuts) none =
    let hole = hole_is (is_point order_of d e) e.mark (first_gap (open_to (Some e) f ∷ spans_of false cuts)) none in
    let last = hold (bound_term (upper_relation Compares) (last_upper (open_to (Some e) f) (spans_of false cuts))) v in
    let holes = hold (hole_terms (open_to (Some e) f ∷ spans_of false cuts)) v in
    let here = is_held (record { operator = NotEqual; version = d.version }) v || false in
    (λ i. sym (hole_one v d e hole.0) i && behind_says v (Some e) f cuts hole.1 i)
    ∙ ap (λ h. h && (last && holes)) (and-true here) ∙ swap here last holes

-- ---- a single span

pair_says : (v : Fields) (c d : Cut Fields) → hold (span_terms Compares order_of (Some c) (Some d)) v ≡ (cut_below order_of c v && not (cut_below order_of d v))
pair_says v c d = bounds.pair_says Compares order_of order_total holds v (λ _ _. ⊤) (λ _ _ _. refl) c d tt tt (λ _. tt)

-- ---- all spans

-- the terms of bounds, then those of holes
both_hold : (v : Fields) (terms more : List (List GemRelation)) → hold (terms ++ more) v ≡ (hold terms v && hold more v)
both_hold v terms more = list_all-append (λ term. list_any (λ relation. is_held relation v) term) terms more

behind_lower : (v : Fields) (c d : Cut Fields) (cuts : List (Cut Fields)) → first_gap (open_to (Some c) d ∷ spans_of false cuts) ≡ None
    → (cut_below order_of c v && after_cut order_of v d cuts) ≡ hold ((lower_relation Compares c ∷ []) ∷ (bound_term (upper_relation Compares) (last_upper (open_to (Some c) d) (spans_of false cuts)) ++ hole_terms (open_to (Some c) d ∷ spans_of false cuts))) v
behind_lower v c d cuts none =
    let upper = bound_term (upper_relation Compares) (last_upper (open_to (Some c) d) (spans_of false cuts)) in
    let holes = hole_terms (open_to (Some c) d ∷ spans_of false cuts) in
    λ i. sym (lower_one v c) i && (behind_says v (Some c) d cuts none ∙ sym (both_hold v upper holes)) i

behind_none : (v : Fields) (d : Cut Fields) (cuts : List (Cut Fields)) → first_gap (open_to None d ∷ spans_of false cuts) ≡ None
    → after_cut order_of v d cuts ≡ hold (bound_term (upper_relation Compares) (last_upper (open_to None d) (spans_of false cuts)) ++ hole_terms (open_to None d ∷ spans_of false cuts)) v
behind_none v d cuts none =
    behind_says v None d cuts none ∙ sym (both_hold v (bound_term (upper_relation Compares) (last_upper (open_to None d) (spans_of false cuts))) (hole_terms (open_to None d ∷ spans_of false cuts)))

spans_hold : (v : Fields) (starts : Bool) (cuts : List (Cut Fields)) → IsRising order_of cuts → spans_of starts cuts ≢ [] → first_gap (spans_of starts cuts) ≡ None
    → in_spans order_of (spans_of starts cuts) v ≡ hold (back_terms (spans_of starts cuts)) v
spans_hold v false [] rising some none = absurd (some refl)
spans_hold v false (c ∷ []) rising some none = or-false _ ∙ and-true _ ∙ sym (and-true _ ∙ lower_one v c)
spans_hold v false (c ∷ d ∷ []) rising some none = or-false _ ∙ sym (pair_says v c d)
spans_hold v false (c ∷ d ∷ e ∷ []) rising some none = lower_first order_of order_total v c d (e ∷ []) rising ∙ behind_lower v c d (e ∷ []) none
spans_hold v false (c ∷ d ∷ e ∷ f ∷ cuts) rising some none = lower_first order_of order_total v c d (e ∷ f ∷ cuts) rising ∙ behind_lower v c d (e ∷ f ∷ cuts) none
spans_hold v true [] rising some none = refl
spans_hold v true (c ∷ []) rising some none = or-false _ ∙ sym (and-true _ ∙ upper_one v c)
spans_hold v true (c ∷ e ∷ []) rising some none = upper_first order_of order_total v c (e ∷ []) rising ∙ behind_none v c (e ∷ []) none
spans_hold v true (c ∷ e ∷ f ∷ cuts) rising some none = upper_first order_of order_total v c (e ∷ f ∷ cuts) rising ∙ behind_none v c (e ∷ f ∷ cuts) none

-- ---- the terms are of one requirement each, of versions

bound_is : (relation_of : Cut Fields → GemRelation) → ((cut : Cut Fields) → IsVersion cut.version → IsVersion (relation_of cut).version) → (cut : Option (Cut Fields)) → CutIs IsVersion cut → AllByRecursion TermIs (bound_term relation_of cut)
bound_is relation_of same None is = tt
bound_is relation_of same (Some cut) is = (same cut is, tt)

bounds_are : (lower upper : Option (Cut Fields)) → CutIs IsVersion lower → CutIs IsVersion upper → AllByRecursion TermIs (bound_term (lower_relation Compares) lower ++ bound_term (upper_relation Compares) upper)
bounds_are lower upper p q =
    each_append TermIs (bound_term (lower_relation Compares) lower) (bound_term (upper_relation Compares) upper)
    (bound_is (lower_relation Compares) (λ cut is. is) lower p) (bound_is (upper_relation Compares) (λ cut is. is) upper q)

hole_is_term : (upper : Option (Cut Fields)) → CutIs IsVersion upper → AllByRecursion TermIs (hole_term upper)
hole_is_term None is = tt
hole_is_term (Some upper) is = (is, tt)

holes_are : (spans : List (Span Fields)) → EachVersion IsVersion spans → AllByRecursion TermIs (hole_terms spans)
holes_are [] each = tt
holes_are (span ∷ []) each = tt
holes_are (span ∷ next ∷ spans) each = each_append TermIs (hole_term span.upper) (hole_terms (next ∷ spans)) (hole_is_term span.upper each.0.1) (holes_are (next ∷ spans) each.1)

last_is : (span : Span Fields) (spans : List (Span Fields)) → EachVersion IsVersion (span ∷ spans) → CutIs IsVersion (last_upper span spans)
last_is span [] each = each.0.1
last_is span (next ∷ spans) each = last_is next spans each.1

terms_are : (spans : List (Span Fields)) → EachVersion IsVersion spans → AllByRecursion TermIs (back_terms spans)
terms_are [] each = tt
terms_are (span ∷ []) each = bounds.span_are Compares order_of IsVersion false span.lower span.upper each.0.0 each.0.1
terms_are (span ∷ next ∷ spans) each =
    each_append TermIs (bound_term (lower_relation Compares) span.lower ++ bound_term (upper_relation Compares) (last_upper next spans)) (hole_terms (span ∷ next ∷ spans))
    (bounds_are span.lower (last_upper next spans) each.0.0 (last_is next spans each.1)) (holes_are (span ∷ next ∷ spans) each)

-- ---- the law

printed : (spans : List (Span Fields)) → IsSpans order_of spans → first_gap spans ≡ None → (v : Fields) → in_spans order_of spans v ≡ hold (back_terms spans) v
printed spans is none v =
    let apart = is.in_order.apart in
    let starts = starts_of spans in
    let cuts = cuts_of spans in
    subst (λ (s : List (Span Fields)). in_spans order_of s v ≡ hold (back_terms s) v) apart
    (spans_hold v starts cuts is.in_order.rising (subst (λ (s : List (Span Fields)). s ≢ []) (sym apart) is.some) (subst (λ (s : List (Span Fields)). first_gap s ≡ None) (sym apart) none))

text_is : (gap : Option ℕ) (terms : List (List GemRelation)) (text : List ℕ) → text_unless gap terms ≡ Ok text → (gap ≡ None) × (range_text terms ≡ text)
text_is None terms text made = (refl, cc made)
text_is (Some mark) terms text made = cc made

prints : (domain : Domain) (spans : List (Span Fields)) (text : List ℕ) → IsSpans order_of spans → EachVersion IsVersion spans → back domain spans ≡ Ok text
    → PrintsSpans order_of IsVersion (by_domain (λ _. ⊤) IsRelease domain) IsRange In spans text
prints domain spans text is each made =
    let terms = back_terms spans in
    let e = text_is (first_gap spans) terms text made in
    let says = printed spans is e.0 in
    let reads : Reads text terms = subst (λ t. Reads t terms) e.1 (written_read terms (terms_are spans each)) in
    terms_print None is_sign HasSigns Spells one_reads order_of IsVersion (by_domain (λ _. ⊤) IsRelease domain) holds spans text terms reads (λ v within. says v)

pub gem_backs : BackLaws order_of IsVersion (by_domain (λ _. ⊤) IsRelease) IsRange In back
gem_backs = record { backward = prints }
