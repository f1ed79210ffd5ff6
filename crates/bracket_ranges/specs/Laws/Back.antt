-- What a language of brackets promises of the way back: the text of spans holds what the spans hold.
use Rattle.std.proofs.Common.{◌≡◌, ◌≢◌, ◌+◌, ◌++◌, ◌&&◌, ◌||◌, not, if◌then◌else◌, ℕ, Bool, true, false, List, [], ◌∷◌, length, refl, sym, ap, ◌∙◌, subst, inl, inr, Option, Some, None, Ok, append-nil, append_assoc, codes, arith}
use Rattle.std.specs.Cmp.{IsTotalOrder, alike_right}
use Rattle.std.specs.List.{list_all, list_any, onto_first}
use Rattle.std.specs.Ordering.{is_eq, is_lt, is_le, is_gt, is_ge}
use Rattle.std.specs.declared.cmp.Ordering.{Ordering}
use Rattle.std.specs.declared.cmp.Ordering.TheVariants as ordering
use Rattle.std.proofs.Math.Bool.{and-true}
use Rattle.std.proofs.lemmas.Bool.{cases_Bool, and_parts, and_from, not-true}
use Rattle.std.proofs.lemmas.Bool.Decides.{nat_tests}
use Rattle.std.proofs.lemmas.List.Folds.{list_all-append}
use Rattle.vx_spec.specs.Each.{AreEach}
use Rattle.vx_spec.specs.Runs.{is_blank, begins}
use Rattle.vx_scheme.specs.declared.domain.Domain.{Domain}
use Rattle.vx_scheme.specs.declared.span.Cut.{Cut}
use Rattle.vx_scheme.specs.declared.span.Span.{Span}
use Rattle.vx_scheme.specs.Cuts as cuts
use Rattle.vx_scheme.specs.Cuts.{stands_below, cut_below, span_at, in_spans}
use Rattle.vx_scheme.specs.Scheme.{TextLaws}
use Rattle.vx_scheme.specs.Native.{BackLaws, PrintsSpans, IsSpans, CutIs, EachVersion}
use Rattle.vx_range.specs.Lists.{piece_of}
use Rattle.vx_range.specs.Making.{terms_hold}
use Rattle.vx_range.specs.Spans.{is_point}
use Rattle.vx_range.specs.Laws.OneRefusal.{reads_one}
use Rattle.vx_range.specs.Laws.Points as points
use Rattle.bracket_ranges.specs.declared.bracket.Bound.{Bound}
use Rattle.bracket_ranges.specs.declared.bracket.Bracket.{Bracket}
use Rattle.bracket_ranges.specs.declared.bracket.Bracket.TheVariants.{Exact, Between}
use Rattle.bracket_ranges.specs.Signs.{is_opening, is_closing, is_square}
use Rattle.bracket_ranges.specs.Words.{IsWord, is_word_byte}
use Rattle.bracket_ranges.specs.Steps.Parts.{is_unclosed}
use Rattle.bracket_ranges.specs.Cutting.{closed_parts, next_piece, next_pieces, bracket_pieces, pieces_of, IsCut}
use Rattle.bracket_ranges.specs.Reading.{Parts, IsBracket, ReadsBound, ReadsBracket, ReadsAs, IsPast}
use Rattle.bracket_ranges.specs.Holds.{is_over, is_under, holds}
use Rattle.bracket_ranges.specs.Range.{Reads, IsRange, In}
use Rattle.bracket_ranges.specs.Back.{at_version, back, bounds_text, lower_text, others_text, point_text, sides_text, span_text, spans_text, text_behind, upper_text}
use Rattle.bracket_ranges.specs.Laws.Words.{word_closes_none, word_lacks_comma, word_trimmed, behind_blanks, trimmed_tight}
use Rattle.bracket_ranges.specs.Laws.Reading.{cut_laws, piece_laws}

-- ---- texts of brackets, by their bytes

-- an opening sign, bytes that close no bracket, and a closing sign
record IsClosed (text : List ℕ) : Type 0 where
  opening : ℕ
  inside : List ℕ
  closing : ℕ
  joined : text ≡ opening ∷ (inside ++ closing ∷ [])
  opens : is_opening opening ≡ true
  unclosed : list_all is_unclosed inside ≡ true
  closes : is_closing closing ≡ true

opening_unclosed : (b : ℕ) → is_opening b ≡ true → (is_closing b ≡ false) × (is_blank b ≡ false)
opening_unclosed b opens = (grind (arith, nat_tests), grind (arith, nat_tests))

-- a closing sign is no blank
closing_solid : (b : ℕ) → is_closing b ≡ true → is_blank b ≡ false
closing_solid b closes = grind (arith, nat_tests)

-- the first part of a text ends at its first closing sign
cut_behind : (front : List ℕ) (c : ℕ) (rest : List ℕ) → list_all is_unclosed front ≡ true → is_closing c ≡ true
    → closed_parts (front ++ c ∷ rest) ≡ (front ++ c ∷ []) ∷ closed_parts rest
cut_behind [] c rest all closes = rw closes refl
cut_behind (b ∷ front) c rest all closes =
    let a = and_parts (is_unclosed b) (list_all is_unclosed front) all in
    let other : is_closing b ≡ false = not-true (is_closing b) a.0 in
    rw other (ap (onto_first b) (cut_behind front c rest a.1 closes))

closed_first : (text rest : List ℕ) → IsClosed text → closed_parts (text ++ rest) ≡ text ∷ closed_parts rest
closed_first text rest is =
    let front = is.opening ∷ is.inside in
    let all = and_from (is_unclosed is.opening) (list_all is_unclosed is.inside) (ap not (opening_unclosed is.opening is.opens).0) is.unclosed in
    let split : text ++ rest ≡ front ++ is.closing ∷ rest = ap (λ (t : List ℕ). t ++ rest) is.joined ∙ append_assoc front (is.closing ∷ []) rest in
    ap closed_parts split ∙ cut_behind front is.closing rest all is.closes ∙ ap (λ (t : List ℕ). t ∷ closed_parts rest) (sym is.joined)

-- and the same behind a comma
closed_next : (text rest : List ℕ) → IsClosed text → closed_parts (44 ∷ (text ++ rest)) ≡ (44 ∷ text) ∷ closed_parts rest
closed_next text rest is = ap (onto_first 44) (closed_first text rest is)

closed_begins : (test : ℕ → Bool) (text rest : List ℕ) (is : IsClosed text) → begins test (text ++ rest) ≡ test is.opening
closed_begins test text rest is = ap (λ (t : List ℕ). begins test (t ++ rest)) is.joined

-- ---- bytes of signs

-- the signs of a bound: square where the version belongs to the bracket
abbrev lower_sign : Bool → ℕ
lower_sign after = if after then 40 else 91

abbrev upper_sign : Bool → ℕ
upper_sign after = if after then 93 else 41

lower_square : (after : Bool) → is_square (lower_sign after) ≡ not after
lower_square true = refl
lower_square false = refl

upper_square : (after : Bool) → is_square (upper_sign after) ≡ after
upper_square true = refl
upper_square false = refl

lower_opens : (after : Bool) → is_opening (lower_sign after) ≡ true
lower_opens true = refl
lower_opens false = refl

upper_closes : (after : Bool) → is_closing (upper_sign after) ≡ true
upper_closes true = refl
upper_closes false = refl

sign_before : (after : Bool) (text : List ℕ) → (if after then codes "(" else codes "[") ++ text ≡ lower_sign after ∷ text
sign_before true text = refl
sign_before false text = refl

sign_behind : (after : Bool) (text : List ℕ) → text ++ (if after then codes "]" else codes ")") ≡ text ++ upper_sign after ∷ []
sign_behind true text = refl
sign_behind false text = refl

-- ---- the ends of texts

-- the text ends with a byte that is no blank
record Ends (text : List ℕ) : Type 0 where
  front : List ℕ
  last : ℕ
  joined : text ≡ front ++ last ∷ []
  solid : is_blank last ≡ false

closed_ends : (text : List ℕ) → IsClosed text → Ends text
closed_ends text is = record { front = is.opening ∷ is.inside; last = is.closing; joined = is.joined; solid = closing_solid is.closing is.closes }

ends_behind : (before text : List ℕ) → Ends text → Ends (before ++ text)
ends_behind before text e = record {
  front = before ++ e.front;
  last = e.last;
  joined = ap (λ (t : List ℕ). before ++ t) e.joined ∙ sym (append_assoc before e.front (e.last ∷ []));
  solid = e.solid;
}

module _ {V : Type 0} (alone : V → Bracket V) (Spells : List ℕ → V → Type 0) (first_past : ℕ → List ℕ → Option ℕ)
    (words : (text : List ℕ) (v : V) → Spells text v → IsWord text) (order : V → V → Ordering) (laws : IsTotalOrder order)
    (IsVersion IsWithin : V → Type 0) (normal : V → List ℕ) (texts : TextLaws order IsVersion IsWithin Spells normal) where
  -- ---- what a bound that is printed asks, its version being order-equal to the cut's

  over_says : (after : Bool) (w x v : V) → order w x ≡ ordering.Equal → (if not after then is_ge (order v w) else is_gt (order v w)) ≡ stands_below (order x v) after
  over_says false w x v e = ap is_ge (alike_right laws w x v e) ∙ sym (points.over_before order laws x v)
  over_says true w x v e = ap is_gt (alike_right laws w x v e) ∙ sym (points.over_after order laws x v)

  under_says : (after : Bool) (w x v : V) → order w x ≡ ordering.Equal → (if after then is_le (order v w) else is_lt (order v w)) ≡ not (stands_below (order x v) after)
  under_says false w x v e = ap is_lt (alike_right laws w x v e) ∙ sym (points.under_before order laws x v)
  under_says true w x v e = ap is_le (alike_right laws w x v e) ∙ sym (points.under_after order laws x v)

  equal_of : (o : Ordering) → is_eq o ≡ true → o ≡ ordering.Equal
  equal_of ordering.Less e = cc e
  equal_of ordering.Equal e = refl
  equal_of ordering.Greater e = cc e

  point_by : (c d v : V) → order c d ≡ ordering.Equal → (stands_below (order c v) false && not (stands_below (order d v) true)) ≡ is_eq (order v c)
  point_by c d v same =
      (λ i. points.over_before order laws c v i && (points.under_after order laws d v ∙ ap is_le (sym (alike_right laws c d v same))) i) ∙ points.point_is (order v c)

  point_says : (c d : Bool) (a b v : V) → ((not c && d) && is_eq (order a b)) ≡ true
      → (stands_below (order a v) c && not (stands_below (order b v) d)) ≡ is_eq (order v a)
  point_says false true a b v is = point_by a b v (equal_of (order a b) is)
  point_says false false a b v is = absurd (cc is)
  point_says true d a b v is = absurd (cc is)

  -- ---- the sides of a bracket

  abbrev side_text : Option (Cut V) → List ℕ
  side_text None = []
  side_text (Some cut) = normal cut.version

  abbrev opening_of : Option (Cut V) → ℕ
  opening_of None = 40
  opening_of (Some cut) = lower_sign cut.after

  abbrev closing_of : Option (Cut V) → ℕ
  closing_of None = 41
  closing_of (Some cut) = upper_sign cut.after

  side_word : (cut : Option (Cut V)) → CutIs IsVersion cut → list_all is_word_byte (side_text cut) ≡ true
  side_word None is = refl
  side_word (Some cut) is = let n = texts.normal_spells cut.version is in (words (normal cut.version) n.version n.spelled).bytes

  lower_is : (cut : Option (Cut V)) → lower_text order normal cut ≡ opening_of cut ∷ side_text cut
  lower_is None = refl
  lower_is (Some cut) = sign_before cut.after (normal cut.version)

  upper_is : (cut : Option (Cut V)) → upper_text order normal cut ≡ side_text cut ++ closing_of cut ∷ []
  upper_is None = refl
  upper_is (Some cut) = sign_behind cut.after (normal cut.version)

  opens_of : (cut : Option (Cut V)) → is_opening (opening_of cut) ≡ true
  opens_of None = refl
  opens_of (Some cut) = lower_opens cut.after

  closes_of : (cut : Option (Cut V)) → is_closing (closing_of cut) ≡ true
  closes_of None = refl
  closes_of (Some cut) = upper_closes cut.after

  -- the cuts that a version is compared with
  abbrev under_cut : V → Cut V → Bool
  under_cut v cut = cut_below order cut v

  -- a side that is printed is read as a bound that asks what the cut does
  record LowerRead (cut : Option (Cut V)) : Type 0 where
    bound : Option (Bound V)
    reads : ReadsBound Spells (is_square (opening_of cut)) (side_text cut) bound
    held : (v : V) → is_over order bound v ≡ cuts.is_over (under_cut v) cut

  lower_read : (cut : Option (Cut V)) → CutIs IsVersion cut → LowerRead cut
  lower_read None is = record { bound = None; reads = refl; held = λ v. refl }
  lower_read (Some cut) is =
      let n = texts.normal_spells cut.version is in
      let word = words (normal cut.version) n.version n.spelled in record {
        bound = Some (record { version = n.version; included = not cut.after });
        reads = (subst (λ t. Spells t n.version) (sym (word_trimmed (normal cut.version) word.bytes)) n.spelled, sym (lower_square cut.after));
        held = λ v. over_says cut.after n.version cut.version v n.order_equal;
      }

  record UpperRead (cut : Option (Cut V)) : Type 0 where
    bound : Option (Bound V)
    reads : ReadsBound Spells (is_square (closing_of cut)) (side_text cut) bound
    held : (v : V) → is_under order bound v ≡ cuts.is_under (under_cut v) cut

  upper_read : (cut : Option (Cut V)) → CutIs IsVersion cut → UpperRead cut
  upper_read None is = record { bound = None; reads = refl; held = λ v. refl }
  upper_read (Some cut) is =
      let n = texts.normal_spells cut.version is in
      let word = words (normal cut.version) n.version n.spelled in record {
        bound = Some (record { version = n.version; included = cut.after });
        reads = (subst (λ t. Spells t n.version) (sym (word_trimmed (normal cut.version) word.bytes)) n.spelled, sym (upper_square cut.after));
        held = λ v. under_says cut.after n.version cut.version v n.order_equal;
      }

  -- ---- brackets

  -- the text of two cuts is that of a bracket, which holds what lies between the cuts
  record SidesRead (text : List ℕ) (lower upper : Option (Cut V)) : Type 0 where
    bracket : Bracket V
    reads : ReadsBracket Spells text bracket
    held : (v : V) → holds order bracket v ≡ (cuts.is_over (under_cut v) lower && cuts.is_under (under_cut v) upper)
    closed : IsClosed text

  bounds_read : (lower upper : Option (Cut V)) → CutIs IsVersion lower → CutIs IsVersion upper → SidesRead (bounds_text order normal lower upper) lower upper
  bounds_read lower upper p q =
      let low = lower_read lower p in
      let high = upper_read upper q in
      let front = side_text lower in
      let back = side_text upper in
      let inside = front ++ 44 ∷ back in
      let joined : bounds_text order normal lower upper ≡ opening_of lower ∷ (inside ++ closing_of upper ∷ []) =
      (λ i. lower_is lower i ++ 44 ∷ upper_is upper i) ∙ ap (λ (t : List ℕ). opening_of lower ∷ t) (sym (append_assoc front (44 ∷ back) (closing_of upper ∷ []))) in
      let parts : Parts = record { opening = opening_of lower; front = front; back = Some back; closing = closing_of upper } in
      let bracket : IsBracket (bounds_text order normal lower upper) parts =
      record { joined = joined; opens = opens_of lower; closes = closes_of upper; first = word_lacks_comma front (side_word lower p); one = word_lacks_comma back (side_word upper q) } in record {
        bracket = Between low.bound high.bound;
        reads = (parts, bracket, (low.reads, high.reads));
        held = λ v i. low.held v i && high.held v i;
        closed = record {
          opening = opening_of lower;
          inside = inside;
          closing = closing_of upper;
          joined = joined;
          opens = opens_of lower;
          unclosed = list_all-append is_unclosed front (44 ∷ back) ∙ (λ i. word_closes_none front (side_word lower p) i && word_closes_none back (side_word upper q) i);
          closes = closes_of upper;
        };
      }

  point_read : (c d : Cut V) → IsVersion c.version → is_point order c d ≡ true → SidesRead (point_text order normal c.version) (Some c) (Some d)
  point_read c d is point =
      let n = texts.normal_spells c.version is in
      let text = normal c.version in
      let word = words text n.version n.spelled in
      let parts : Parts = record { opening = 91; front = text; back = None; closing = 93 } in
      let bracket : IsBracket (point_text order normal c.version) parts =
      record { joined = ap (λ (t : List ℕ). 91 ∷ (t ++ 93 ∷ [])) (sym (append-nil text)); opens = refl; closes = refl; first = word_lacks_comma text word.bytes; one = tt } in record {
        bracket = Exact n.version;
        reads = (parts, bracket, (refl, refl, n.spelled));
        held = λ v. ap is_eq (alike_right laws n.version c.version v n.order_equal) ∙ sym (point_says c.after d.after c.version d.version v point);
        closed = record { opening = 91; inside = text; closing = 93; joined = refl; opens = refl; unclosed = word_closes_none text word.bytes; closes = refl };
      }

  sides_read : (lower upper : Option (Cut V)) → CutIs IsVersion lower → CutIs IsVersion upper → SidesRead (sides_text order normal lower upper) lower upper
  sides_read None upper p q = bounds_read None upper p q
  sides_read (Some c) None p q = bounds_read (Some c) None p q
  sides_read (Some c) (Some d) p q = elim (cases_Bool (is_point order c d)) [
    | inl point ↦ rw point (point_read c d p point)
    | inr other ↦ rw other (bounds_read (Some c) (Some d) p q)
  ]

  -- a hole's cuts stand below the same versions on the same side
  hole_says : (start lower : Cut V) (v : V) → is_point order start lower ≡ true → under_cut v (at_version start.version lower) ≡ under_cut v lower
  hole_says start lower v hole =
      let same = equal_of (order start.version lower.version) (and_parts (not start.after && lower.after) (is_eq (order start.version lower.version)) hole).1 in
      ap (λ o. stands_below o lower.after) (laws.congr start.version lower.version v same)

  hole_read : (start lower : Cut V) (upper : Option (Cut V)) → is_point order start lower ≡ true → IsVersion start.version → CutIs IsVersion upper
      → SidesRead (bounds_text order normal (Some (at_version start.version lower)) upper) (Some lower) upper
  hole_read start lower upper hole p q =
      let s = bounds_read (Some (at_version start.version lower)) upper p q in record {
        bracket = s.bracket;
        reads = s.reads;
        held = λ v. s.held v ∙ (λ i. hole_says start lower v hole i && cuts.is_under (under_cut v) upper);
        closed = s.closed;
      }

  behind_read : (start lower upper : Option (Cut V)) → CutIs IsVersion start → CutIs IsVersion lower → CutIs IsVersion upper → SidesRead (text_behind order normal start lower upper) lower upper
  behind_read None lower upper o p q = sides_read lower upper p q
  behind_read (Some start) None upper o p q = sides_read None upper p q
  behind_read (Some start) (Some lower) upper o p q = elim (cases_Bool (is_point order start lower)) [
    | inl hole ↦ rw hole (hole_read start lower upper hole o q)
    | inr other ↦ rw other (sides_read (Some lower) upper p q)
  ]

  -- ---- all spans

  abbrev text_of : Span V → List ℕ
  text_of span = span_text order normal span

  abbrev others : Option (Cut V) → List (Span V) → List ℕ
  others end spans = others_text order normal end spans

  abbrev behind : Option (Cut V) → Span V → List ℕ
  behind end span = text_behind order normal end span.lower span.upper

  abbrev is_held : List (Bracket V) → V → Bool
  is_held all v = list_any (λ bracket. holds order bracket v) all

  -- the brackets behind a span that ends at this cut
  record OthersRead (end : Option (Cut V)) (spans : List (Span V)) : Type 0 where
    all : List (Bracket V)
    each : (at : ℕ) → AreEach (ReadsAs Spells alone) (next_pieces true at (closed_parts (others end spans))) all
    held : (v : V) → is_held all v ≡ in_spans order spans v

  next_read : (at : ℕ) (text : List ℕ) (bracket : Bracket V) → IsClosed text → ReadsBracket Spells text bracket → ReadsAs Spells alone (next_piece true at (44 ∷ text)) bracket
  next_read at text bracket is reads =
      let first : begins is_blank text ≡ false = ap (begins is_blank) is.joined ∙ (opening_unclosed is.opening is.opens).1 in
      subst (λ t. ReadsBracket Spells t bracket) (sym (behind_blanks text first)) reads

  others_read : (end : Option (Cut V)) (spans : List (Span V)) → CutIs IsVersion end → EachVersion IsVersion spans → OthersRead end spans
  others_read end [] is are = record { all = []; each = λ at. tt; held = λ v. refl }
  others_read end (span ∷ spans) is are =
      let s = behind_read end span.lower span.upper is are.0.0 are.0.1 in
      let r = others_read span.upper spans are.0.1 are.1 in
      let text = behind end span in
      let parts = closed_next text (others span.upper spans) s.closed in record {
        all = s.bracket ∷ r.all;
        each = λ at. subst (λ (ps : List (List ℕ)). AreEach (ReadsAs Spells alone) (next_pieces true at ps) (s.bracket ∷ r.all)) (sym parts)
            (next_read at text s.bracket s.closed s.reads, r.each (at + length (44 ∷ text)));
        held = λ v i. s.held v i || r.held v i;
      }

  all_ends : (text : List ℕ) (end : Option (Cut V)) (spans : List (Span V)) → Ends text → CutIs IsVersion end → EachVersion IsVersion spans → Ends (text ++ others end spans)
  all_ends text end [] ends is are = subst Ends (sym (append-nil text)) ends
  all_ends text end (span ∷ spans) ends is are =
      let s = behind_read end span.lower span.upper is are.0.0 are.0.1 in
      let next = behind end span in
      let rest = next ++ others span.upper spans in
      ends_behind text (44 ∷ rest) (ends_behind (44 ∷ []) rest (all_ends next span.upper spans (closed_ends next s.closed) are.0.1 are.1))

  -- a text that begins with a bracket
  group_read : (lists : Bool) (first rest : List ℕ) (bracket : Bracket V) (all : List (Bracket V)) → IsClosed first → Ends (first ++ rest) → ReadsBracket Spells first bracket
      → ((at : ℕ) → AreEach (ReadsAs Spells alone) (next_pieces lists at (closed_parts rest)) all) → AreEach (ReadsAs Spells alone) (pieces_of lists (piece_of 0 (first ++ rest))) (bracket ∷ all)
  group_read lists first rest bracket all is ends reads each =
      let text = first ++ rest in
      let at = (piece_of 0 text).at in
      let solid : begins is_blank text ≡ false = closed_begins is_blank first rest is ∙ (opening_unclosed is.opening is.opens).1 in
      let tight = trimmed_tight text ends.front ends.last ends.joined ends.solid solid in
      let opens : begins is_opening text ≡ true = closed_begins is_opening first rest is ∙ is.opens in
      let parts = closed_first first rest is in
      let brackets : AreEach (ReadsAs Spells alone) (bracket_pieces lists at (closed_parts text)) (bracket ∷ all) =
      subst (λ (ps : List (List ℕ)). AreEach (ReadsAs Spells alone) (bracket_pieces lists at ps) (bracket ∷ all)) (sym parts) (reads, each (at + length first)) in
      let pieces : AreEach (ReadsAs Spells alone) (pieces_of lists (record { kind = tt; at = at; bytes = text })) (bracket ∷ all) = rw opens brackets in
      subst (λ (t : List ℕ). AreEach (ReadsAs Spells alone) (pieces_of lists (record { kind = tt; at = at; bytes = t })) (bracket ∷ all)) (sym tight) pieces

  -- the text of spans is read, and holds what the spans hold
  record SpansRead (lists : Bool) (text : List ℕ) (spans : List (Span V)) : Type 0 where
    all : List (Bracket V)
    reads : Reads lists alone Spells text (all ∷ [])
    held : (v : V) → is_held all v ≡ in_spans order spans v

  many_read : (spans : List (Span V)) → spans ≢ [] → EachVersion IsVersion spans → SpansRead true (spans_text order normal spans) spans
  many_read [] some are = absurd (some refl)
  many_read (span ∷ spans) some are =
      let s = sides_read span.lower span.upper are.0.0 are.0.1 in
      let r = others_read span.upper spans are.0.1 are.1 in
      let text = text_of span in
      let ends = all_ends text span.upper spans (closed_ends text s.closed) are.0.1 are.1 in record {
        all = s.bracket ∷ r.all;
        reads = record { groups = pieces_of true (piece_of 0 (text ++ others span.upper spans)) ∷ []; cut = refl; each = (group_read true text (others span.upper spans) s.bracket r.all s.closed ends s.reads r.each, tt) };
        held = λ v i. s.held v i || r.held v i;
      }

  one_read : (span : Span V) → CutIs IsVersion span.lower → CutIs IsVersion span.upper → SpansRead false (text_of span) (span ∷ [])
  one_read span p q =
      let s = sides_read span.lower span.upper p q in
      let text = text_of span in
      let whole : text ++ [] ≡ text = append-nil text in
      let ends : Ends (text ++ []) = subst Ends (sym whole) (closed_ends text s.closed) in
      let group = group_read false text [] s.bracket [] s.closed ends s.reads (λ at. tt) in record {
        all = s.bracket ∷ [];
        reads = record { groups = pieces_of false (piece_of 0 text) ∷ []; cut = refl; each = (subst (λ (t : List ℕ). AreEach (ReadsAs Spells alone) (pieces_of false (piece_of 0 t)) (s.bracket ∷ [])) whole group, tt) };
        held = λ v i. s.held v i || false;
      }

  -- ---- the law

  spans_print : (lists : Bool) (InDomain : V → Type 0) (spans : List (Span V)) (text : List ℕ) → SpansRead lists text spans
      → PrintsSpans order IsVersion InDomain (IsRange lists alone Spells) (In lists alone Spells order) spans text
  spans_print lists InDomain spans text r =
      let pieces = piece_laws Spells first_past alone texts.spells_one words in
      let said = λ (v : V). and-true (is_held r.all v) ∙ r.held v in record {
        range = (r.all ∷ [], r.reads);
        members = λ v version within. (
          λ inside. sym (said v) ∙ ap (λ (all : List (List (Bracket V))). terms_hold (holds order) all v) (reads_one (ReadsAs Spells alone) (IsPast Spells first_past) pieces (IsCut lists) (cut_laws lists) text (r.all ∷ []) inside.0 r.reads inside.1) ∙ inside.2,
          λ held. (r.all ∷ [], r.reads, said v ∙ held),
        );
      }

  prints : (lists : Bool) (InDomain : Domain → V → Type 0) (domain : Domain) (spans : List (Span V)) (text : List ℕ) → IsSpans order spans → EachVersion IsVersion spans → back order normal lists domain spans ≡ Ok text
      → PrintsSpans order IsVersion (InDomain domain) (IsRange lists alone Spells) (In lists alone Spells order) spans text
  prints true InDomain domain spans text is are printed =
      let e : spans_text order normal spans ≡ text = cc printed in
      spans_print true (InDomain domain) spans text (subst (λ (t : List ℕ). SpansRead true t spans) e (many_read spans is.some are))
  prints false InDomain domain [] text is are printed = absurd (is.some refl)
  prints false InDomain domain (span ∷ []) text is are printed =
      let e : text_of span ≡ text = cc printed in
      spans_print false (InDomain domain) (span ∷ []) text (subst (λ (t : List ℕ). SpansRead false t (span ∷ [])) e (one_read span are.0.0 are.0.1))
  prints false InDomain domain (span ∷ next ∷ spans) text is are printed = absurd (cc printed)

  pub back_laws : (lists : Bool) (InDomain : Domain → V → Type 0) → BackLaws order IsVersion InDomain (IsRange lists alone Spells) (In lists alone Spells order) (back order normal lists)
  back_laws lists InDomain = record { backward = prints lists InDomain }
