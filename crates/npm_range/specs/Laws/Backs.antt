-- What npm's range language promises of the texts that it prints.
use Rattle.std.proofs.Common.{◌≡◌, ◌&&◌, ◌||◌, ◌+◌, ◌≢◌, not, ℕ, List, [], ◌∷◌, ◌++◌, length, eqb, Bool, true, false, true≢false, refl, sym, ap, ◌∙◌, inl, inr, subst, append_assoc, codes, if◌then◌else◌, Option, Some, None, Ok}
use Rattle.std.specs.Prelude.{⊤}
use Rattle.std.specs.List.{list_all, AllByRecursion, flat_map}
use Rattle.std.specs.Ordering.{is_eq}
use Rattle.std.specs.declared.cmp.Ordering.{Ordering}
use Rattle.std.specs.declared.cmp.Ordering.TheVariants as ordering
use Rattle.std.proofs.Math.Bool.{and-true, or-false}
use Rattle.std.proofs.lemmas.Bool.{cases_Bool, and_parts, ne_eqb, not-true}
use Rattle.vx_spec.specs.Runs.{is_blank, begins}
use Rattle.vx_spec.proofs.TextLaws.{each_append, each_by_test}
use Rattle.vx_scheme.specs.declared.domain.Domain.{Domain}
use Rattle.vx_scheme.specs.declared.span.Cut.{Cut}
use Rattle.vx_scheme.specs.declared.span.Span.{Span}
use Rattle.vx_scheme.specs.Cuts.{stands_below, cut_below, is_over, is_under, in_spans}
use Rattle.vx_scheme.specs.Native.{by_domain, CutIs, EachVersion, IsSpans, PrintsSpans, BackLaws}
use Rattle.vx_spec.specs.Each.{AreEach}
use Rattle.vx_range.specs.Pieces.{Written}
use Rattle.vx_range.specs.Reading.{Reads}
use Rattle.vx_range.specs.Making.{alternatives_hold}
use Rattle.vx_range.specs.Spans.{is_point}
use Rattle.vx_range.specs.Laws.OneRefusal.{reads_one}
use Rattle.vx_range.specs.Laws.Points as points
use Rattle.npm_scheme.specs.Version.{Fields, IsVersion, IsRelease, without_build}
use Rattle.npm_scheme.specs.Order.{order_of, order_total}
use Rattle.npm_scheme.specs.Writing.{normal}
use Rattle.npm_range.specs.declared.construct.Construct.{Construct}
use Rattle.npm_range.specs.declared.construct.Operator.{Operator}
use Rattle.npm_range.specs.declared.construct.Operator.TheVariants.{Equal, Less, LessEqual, Greater, GreaterEqual}
use Rattle.npm_range.specs.declared.construct.Partial.{Partial}
use Rattle.npm_range.specs.declared.construct.Partial.TheVariants.{Any, Full}
use Rattle.npm_range.specs.Back.{lower_text, upper_text, sides_text, span_text, spans_text, back}
use Rattle.npm_range.specs.Laws.Texts.{IsInner, IsSide, version_word, any_word, side_inner, ReadsSo, read_as, one_side, two_sides}
use Rattle.npm_range.specs.declared.cutting.Kind.{Kind}
use Rattle.npm_range.specs.Cutting.{is_bar, has_bars, AreAlternatives, IsCut}
use Rattle.npm_range.specs.Reading.{ReadsAs}
use Rattle.npm_range.specs.Refusals.{IsPast}
use Rattle.npm_range.specs.Holds.{holds, holds_by}
use Rattle.npm_range.specs.Laws.Cuts.{npm_cuts, more}
use Rattle.npm_range.specs.Laws.Pieces.{npm_pieces}
use Rattle.npm_range.specs.Range.{IsRange, In}

-- The sides of a span.
abbrev lower_operator : Bool → Operator
lower_operator true = Greater
lower_operator false = GreaterEqual

abbrev upper_operator : Bool → Operator
upper_operator true = LessEqual
upper_operator false = Less

lower_side : (after : Bool) (v : Fields) → IsVersion v → IsSide ((if after then codes ">" else codes ">=") ++ normal v) (lower_operator after) (Full (without_build v))
lower_side true v is = record { signs = codes ">"; word = normal v; joined = refl; are_signs = refl; written = refl; is_word = version_word v is }
lower_side false v is = record { signs = codes ">="; word = normal v; joined = refl; are_signs = refl; written = refl; is_word = version_word v is }

upper_side : (after : Bool) (v : Fields) → IsVersion v → IsSide ((if after then codes "<=" else codes "<") ++ normal v) (upper_operator after) (Full (without_build v))
upper_side true v is = record { signs = codes "<="; word = normal v; joined = refl; are_signs = refl; written = refl; is_word = version_word v is }
upper_side false v is = record { signs = codes "<"; word = normal v; joined = refl; are_signs = refl; written = refl; is_word = version_word v is }

point_side : (v : Fields) → IsVersion v → IsSide (normal v) Equal (Full (without_build v))
point_side v is = record { signs = []; word = normal v; joined = refl; are_signs = refl; written = inl refl; is_word = version_word v is }

every_side : IsSide (codes "*") Equal Any
every_side = record { signs = []; word = codes "*"; joined = refl; are_signs = refl; written = inl refl; is_word = any_word }

-- an upper side begins with '<'
upper_begins : (test : ℕ → Bool) → test 60 ≡ false → (after : Bool) (v : Fields) (end : List ℕ) → begins test (((if after then codes "<=" else codes "<") ++ normal v) ++ end) ≡ false
upper_begins test none true v end = none
upper_begins test none false v end = none

-- What they hold: the version without its build compares as the version itself.
lower_holds : (after : Bool) (bound v : Fields) → holds_by (lower_operator after) (Full (without_build bound)) v ≡ stands_below (order_of bound v) after
lower_holds true bound v = sym (points.over_after order_of order_total bound v)
lower_holds false bound v = sym (points.over_before order_of order_total bound v)

upper_holds : (after : Bool) (bound v : Fields) → holds_by (upper_operator after) (Full (without_build bound)) v ≡ not (stands_below (order_of bound v) after)
upper_holds true bound v = sym (points.under_after order_of order_total bound v)
upper_holds false bound v = sym (points.under_before order_of order_total bound v)

-- a point holds the versions that are order-equal to its first cut's
equal_is : (o : Ordering) → is_eq o ≡ true → o ≡ ordering.Equal
equal_is ordering.Less is = cc is
equal_is ordering.Equal is = refl
equal_is ordering.Greater is = cc is

point_parts : (lower upper : Cut Fields) → is_point order_of lower upper ≡ true → (lower.after ≡ false) × (upper.after ≡ true) × (order_of lower.version upper.version ≡ ordering.Equal)
point_parts lower upper is =
    let a = and_parts (not lower.after && upper.after) (is_eq (order_of lower.version upper.version)) is in
    let b = and_parts (not lower.after) upper.after a.0 in
    (not-true lower.after b.0, b.1, equal_is (order_of lower.version upper.version) a.1)

point_holds : (lower upper : Cut Fields) → is_point order_of lower upper ≡ true → (v : Fields)
    → holds_by Equal (Full (without_build lower.version)) v ≡ (cut_below order_of lower v && not (cut_below order_of upper v))
point_holds lower upper is v =
    let p = point_parts lower upper is in
    let same : order_of lower.version v ≡ order_of upper.version v = order_total.congr lower.version upper.version v p.2 in
    sym (points.point_says order_of order_total 0 lower.version v) ∙ or-false _ ∙ (λ i. stands_below (order_of lower.version v) (sym p.0 i) && not (stands_below (same i) (sym p.1 i)))

-- The text of a span between blanks is read, and holds what the span holds.
sides_read : (at : ℕ) (pad end : List ℕ) (lower upper : Option (Cut Fields)) → list_all is_blank pad ≡ true → list_all is_blank end ≡ true → CutIs IsVersion lower → CutIs IsVersion upper
    → ReadsSo at (pad ++ (sides_text lower upper ++ end)) (λ v. is_over (λ cut. cut_below order_of cut v) lower && is_under (λ cut. cut_below order_of cut v) upper)
sides_read at pad end None None blank last low high = one_side at pad (codes "*") end Equal Any blank last every_side
sides_read at pad end None (Some upper) blank last low high =
    read_as _ _ _ _ (λ v. upper_holds upper.after upper.version v)
    (one_side at pad (upper_text upper) end (upper_operator upper.after) (Full (without_build upper.version)) blank last (upper_side upper.after upper.version high))
sides_read at pad end (Some lower) None blank last low high =
    read_as _ _ _ _ (λ v. lower_holds lower.after lower.version v ∙ sym (and-true _))
    (one_side at pad (lower_text lower) end (lower_operator lower.after) (Full (without_build lower.version)) blank last (lower_side lower.after lower.version low))
sides_read at pad end (Some lower) (Some upper) blank last low high = elim (cases_Bool (is_point order_of lower upper)) [
  | inl point ↦ rw point
      (read_as _ _ _ _ (point_holds lower upper point) (one_side at pad (normal lower.version) end Equal (Full (without_build lower.version)) blank last (point_side lower.version low)))
  | inr other ↦ rw (other, append_assoc (lower_text lower) (32 ∷ upper_text upper) end)
      (read_as _ _ _ _ (λ v i. lower_holds lower.after lower.version v i && upper_holds upper.after upper.version v i)
      (two_sides at pad (lower_text lower) (upper_text upper) end (lower_operator lower.after) (upper_operator upper.after) (Full (without_build lower.version)) (Full (without_build upper.version)) blank last
      (lower_side lower.after lower.version low) (upper_side upper.after upper.version high) (upper_begins (λ b. eqb b 45) refl upper.after upper.version end) (upper_begins is_blank refl upper.after upper.version end)))
]

-- The text of a span has no bars.
abbrev NoBar : ℕ → Type 0
NoBar b = is_bar b ≡ false

inner_bars : (text : List ℕ) → AllByRecursion IsInner text → AllByRecursion NoBar text
inner_bars [] all = tt
inner_bars (b ∷ text) all = (all.0.bar, inner_bars text all.1)

side_bars : (text : List ℕ) (o : Operator) (p : Partial) → IsSide text o p → AllByRecursion NoBar text
side_bars text o p s = inner_bars text (side_inner text o p s)

sides_bars : (lower upper : Option (Cut Fields)) → CutIs IsVersion lower → CutIs IsVersion upper → AllByRecursion NoBar (sides_text lower upper)
sides_bars None None low high = (refl, tt)
sides_bars None (Some upper) low high = side_bars _ _ _ (upper_side upper.after upper.version high)
sides_bars (Some lower) None low high = side_bars _ _ _ (lower_side lower.after lower.version low)
sides_bars (Some lower) (Some upper) low high = elim (cases_Bool (is_point order_of lower upper)) [
  | inl point ↦ rw point (side_bars _ _ _ (point_side lower.version low))
  | inr other ↦ rw other
      (each_append NoBar (lower_text lower) (32 ∷ upper_text upper) (side_bars _ _ _ (lower_side lower.after lower.version low)) (refl, side_bars _ _ _ (upper_side upper.after upper.version high)))
]

no_bars : (text : List ℕ) → AllByRecursion NoBar text → has_bars text ≡ false
no_bars [] all = refl
no_bars (b ∷ text) all = rw (all.0, no_bars text all.1) refl

no_bars_before : (text : List ℕ) → AllByRecursion NoBar text → has_bars (text ++ 124 ∷ []) ≡ false
no_bars_before [] all = refl
no_bars_before (b ∷ text) all = rw (all.0, no_bars_before text all.1) refl

blank_bars : (text : List ℕ) → list_all is_blank text ≡ true → AllByRecursion NoBar text
blank_bars text blank = each_by_test NoBar is_blank text (λ b is. ne_eqb b 124 (λ e. true≢false (sym is ∙ ap is_blank e))) blank

-- The text of spans, behind blanks, is read, and holds what the spans hold.
record ReadsSpans (at : ℕ) (text : List ℕ) (spans : List (Span Fields)) : Type 0 where
  pieces : List (List (Written Kind))
  cut : AreAlternatives at text pieces
  all : List (List Construct)
  each : AreEach (AreEach ReadsAs) pieces all
  held : (v : Fields) → alternatives_hold holds all v ≡ in_spans order_of spans v

abbrev others_text : List (Span Fields) → List ℕ
others_text spans = flat_map (λ span. codes " || " ++ span_text span) spans

spans_read : (at : ℕ) (pad : List ℕ) (span : Span Fields) (spans : List (Span Fields)) → list_all is_blank pad ≡ true → EachVersion IsVersion (span ∷ spans)
    → ReadsSpans at (pad ++ (span_text span ++ others_text spans)) (span ∷ spans)
spans_read at pad span [] blank are =
    let r = sides_read at pad [] span.lower span.upper blank refl are.0.0 are.0.1 in
    let bars = each_append NoBar pad (span_text span ++ []) (blank_bars pad blank) (each_append NoBar (span_text span) [] (sides_bars span.lower span.upper are.0.0 are.0.1) tt) in
    record {
      pieces = r.pieces ∷ [];
      cut = (no_bars _ bars, r.made);
      all = r.constructs ∷ [];
      each = (r.each, tt);
      held = λ v i. r.held v i || false;
    }
spans_read at pad span (next ∷ spans) blank are =
    let front = pad ++ (span_text span ++ (32 ∷ [])) in
    let behind = 32 ∷ (span_text next ++ others_text spans) in
    let r = sides_read at pad (32 ∷ []) span.lower span.upper blank refl are.0.0 are.0.1 in
    let rest = spans_read (at + length front + 2) (32 ∷ []) next spans refl are.1 in
    let bars = each_append NoBar pad (span_text span ++ (32 ∷ [])) (blank_bars pad blank) (each_append NoBar (span_text span) (32 ∷ []) (sides_bars span.lower span.upper are.0.0 are.0.1) (refl, tt)) in
    let joined : pad ++ (span_text span ++ (32 ∷ 124 ∷ 124 ∷ behind)) ≡ front ++ 124 ∷ 124 ∷ behind =
    sym (append_assoc pad (span_text span ++ (32 ∷ [])) (124 ∷ 124 ∷ behind) ∙ ap (λ (t : List ℕ). pad ++ t) (append_assoc (span_text span) (32 ∷ []) (124 ∷ 124 ∷ behind))) in
    record {
      pieces = r.pieces ∷ rest.pieces;
      cut = more at _ front behind r.pieces rest.pieces (record { joined = joined; first = no_bars_before front bars }) r.made rest.cut;
      all = r.constructs ∷ rest.all;
      each = (r.each, rest.each);
      held = λ v i. r.held v i || rest.held v i;
    }

reads_printed : (spans : List (Span Fields)) → spans ≢ [] → EachVersion IsVersion spans → ReadsSpans 0 (spans_text spans) spans
reads_printed [] some are = absurd (some refl)
reads_printed (span ∷ spans) some are = spans_read 0 [] span spans refl are

prints : (domain : Domain) (spans : List (Span Fields)) (text : List ℕ) → IsSpans order_of spans → EachVersion IsVersion spans → back domain spans ≡ Ok text
    → PrintsSpans order_of IsVersion (by_domain (λ _. ⊤) IsRelease domain) IsRange In spans text
prints domain spans text is are printed =
    let r = reads_printed spans is.some are in
    let e : spans_text spans ≡ text = cc printed in
    let reads : Reads IsCut ReadsAs text r.all = subst (λ (t : List ℕ). Reads IsCut ReadsAs t r.all) e (record { groups = r.pieces; cut = r.cut; each = r.each }) in
    record {
      range = (r.all, reads);
      members = λ v version within. (
        λ inside. sym (r.held v) ∙ ap (λ (all : List (List Construct)). alternatives_hold holds all v) (reads_one ReadsAs IsPast npm_pieces IsCut npm_cuts text r.all inside.0 reads inside.1) ∙ inside.2,
        λ held. (r.all, reads, r.held v ∙ held),
      );
    }

pub npm_backs : BackLaws order_of IsVersion (by_domain (λ _. ⊤) IsRelease) IsRange In back
npm_backs = record { backward = prints }
