-- Lines of the lists of which bounds are made.
use Rattle.std.proofs.Common.{arith, ℕ, suc, ◌+◌, ◌-◌, ◌≤◌, length, drop, length-append, ◌≡◌, Bool, true, false, cond, nat_lt, not, Option, Some, None, List, [], ◌∷◌, ◌++◌, append_assoc, append-nil, refl, sym, ap, subst, ◌∙◌}
use Rattle.std.specs.declared.cmp.Ordering.{Ordering}
use Rattle.std.specs.Cmp.{IsTotalOrder}
use Rattle.std.proofs.lemmas.List.Folds.{list_any-append, list_all-append}
use Rattle.std.proofs.lemmas.Bool.{lt-ltb}
use Rattle.std.proofs.Math.Seq.{drop-append_seam, drop-length}
use Rattle.vx_scheme.specs.declared.span.Cut.{Cut}
use Rattle.vx_scheme.specs.declared.span.Span.{Span}
use Rattle.vx_scheme.specs.Cuts.{cut_cmp, cut_list, cuts_of, is_absent, is_over, is_under, span_at}
use Rattle.vx_line.specs.Line.{IsPlace, join_by}
use Rattle.vx_line.specs.Least.{first_least, least_of_both, unite}
use Rattle.vx_line.specs.Pieces.{cuts_below, pieces_at, changes_of}
use Rattle.vx_line.specs.Steps.Joins.{join_right, join_pieces}
use Rattle.vx_line.proofs.LeastLaws.{unite_means, unite_in_order, first_least-append}
use Rattle.vx_line.proofs.JoinLaws.{cuts_joined, few_joined, join_means}
use Rattle.vx_interval.specs.declared.bounds.Joined.{Joined}
use Rattle.vx_interval.specs.declared.line.Line.{Line}
use Rattle.vx_interval.specs.Places.{AtEachPlace}
use Rattle.vx_interval.specs.Joined.{mark_of, IsLine, terms_cuts, made_cuts}
use Rattle.vx_interval.specs.Steps.Lines.{IsLineOf, AreChangesOf, has_item, all_cuts, with_cuts, all_at, ends_of, span_pieces}
use Rattle.vx_interval.proofs.SpanLaws.{cut_total}

join_by-comm : (both a b : Bool) → join_by both a b ≡ join_by both b a
join_by-comm true true true = refl
join_by-comm true true false = refl
join_by-comm true false true = refl
join_by-comm true false false = refl
join_by-comm false true true = refl
join_by-comm false true false = refl
join_by-comm false false true = refl
join_by-comm false false false = refl

no_items : {X : Type 0} → (xs : List X) → length xs ≤ 0 → xs ≡ []
no_items [] l = refl
no_items (x ∷ xs) l = absurd (omega arith)

pub no_length : {X : Type 0} → (xs : List X) → has_item xs ≡ false → length xs ≡ 0
no_length [] e = refl
no_length (x ∷ xs) e = absurd (cc)

-- ---- lines joined
module _ {V : Type 0} {order : V → V → Ordering} (o : IsTotalOrder order) where
  pub line_joined : (both : Bool) (ma mb : List (Cut V)) (ta tb : (Cut V → Bool) → Bool) (a b c : Line V) → IsLineOf order ma ta a → IsLineOf order mb tb b
      → c.starts ≡ join_by both a.starts b.starts → c.pieces ≡ join_pieces mark_of (cut_cmp order) both a.starts a.pieces b.starts b.pieces
      → IsLineOf order (ma ++ mb) (λ below. join_by both (ta below) (tb below)) c
  line_joined both ma mb ta tb a b c la lb starts_is pieces_is =
      let cuts_are : cuts_below c.pieces ≡ unite mark_of (cut_cmp order) (cuts_below a.pieces) (cuts_below b.pieces) =
      ap cuts_below pieces_is ∙ cuts_joined mark_of (cut_cmp order) both a.starts a.pieces b.starts b.pieces in
      record {
        cuts = record {
          in_order = rw cuts_are (unite_in_order mark_of (cut_total o) (cuts_below a.pieces) (cuts_below b.pieces) la.cuts.in_order lb.cuts.in_order);
          least = λ cut.
              ap (first_least mark_of (cut_cmp order) cut) cuts_are
              ∙ unite_means mark_of (cut_total o) cut (cuts_below a.pieces) (cuts_below b.pieces) la.cuts.in_order lb.cuts.in_order
              ∙ (λ i. least_of_both mark_of (la.cuts.least cut i) (lb.cuts.least cut i))
              ∙ sym (first_least-append mark_of (cut_cmp order) cut ma mb);
        };
        pieces = λ below place.
            (λ i. pieces_at below (starts_is i) (pieces_is i))
            ∙ join_means mark_of (cut_total o) place both a.starts a.pieces b.starts b.pieces la.cuts.in_order lb.cuts.in_order
            ∙ (λ i. join_by both (la.pieces below place i) (lb.pieces below place i));
        few =
            let joined = few_joined mark_of (cut_cmp order) both a.starts a.pieces b.starts b.pieces in
            let all = ap length pieces_is in
            omega (arith, la.few, lb.few, length-append ma mb);
      }

  pub line_same : (made made' : List (Cut V)) (test test' : (Cut V → Bool) → Bool) (line : Line V) → made ≡ made' → ((below : Cut V → Bool) → IsPlace (cut_cmp order) below → test below ≡ test' below) → IsLineOf order made test line → IsLineOf order made' test' line
  line_same made made' test test' line e f l = record {
    cuts = subst (λ m. IsLine order m (cuts_below line.pieces)) e l.cuts;
    pieces = λ below place. l.pieces below place ∙ f below place;
    few = subst (λ m. length line.pieces ≤ length m) e l.few;
  }

  abbrev even : Bool → Line V
  even inside = record { starts = inside; pieces = [] }

  pub line_even : (inside : Bool) (line : Line V) → line.starts ≡ inside → line.pieces ≡ [] → IsLineOf order [] (λ below. inside) line
  line_even inside line s p = record {
    cuts = record { in_order = rw p tt; least = λ cut. rw p refl };
    pieces = λ below place. (λ i. pieces_at below (s i) (p i));
    few = rw p (omega arith);
  }

  -- a line joined with one that has no cuts
  pub even_joined : (both inside : Bool) (made : List (Cut V)) (test : (Cut V → Bool) → Bool) (line c : Line V) → IsLineOf order made test line → c.starts ≡ join_by both inside line.starts → c.pieces ≡ join_right both inside line.pieces → IsLineOf order made (λ below. join_by both inside (test below)) c
  even_joined both inside made test line c l s p =
      line_joined both [] made (λ below. inside) test (even inside) line c (line_even inside (even inside) refl refl) l s p

  -- ---- the line of a span
  line_above : (inside out : Bool) (end : Option (Cut V)) (line : Line V) → line.starts ≡ inside → line.pieces ≡ ends_of end out → IsLineOf order (cut_list end) (λ below. pieces_at below inside (ends_of end out)) line
  line_above inside out None line s p = line_even inside line s p
  line_above inside out (Some c) line s p = record {
    cuts = record { in_order = rw p (tt, tt); least = λ cut. rw p refl };
    pieces = λ below place. (λ i. pieces_at below (s i) (p i));
    few = rw p (omega arith);
  }

  over_is : (below : Cut V → Bool) (end : Option (Cut V)) → pieces_at below (is_absent end) (ends_of end true) ≡ is_over below end
  over_is below None = refl
  over_is below (Some c) = by_value (below c)
    where
      by_value : (b : Bool) → cond b true false ≡ b
      by_value true = refl
      by_value false = refl

  under_is : (below : Cut V → Bool) (end : Option (Cut V)) → pieces_at below true (ends_of end false) ≡ is_under below end
  under_is below None = refl
  under_is below (Some c) = by_value (below c)
    where
      by_value : (b : Bool) → cond b false true ≡ not b
      by_value true = refl
      by_value false = refl

  starts_and : (b : Bool) → b ≡ join_by true b true
  starts_and true = refl
  starts_and false = refl

  pub span_line : (span : Span V) (line : Line V) → line.starts ≡ is_absent span.lower → line.pieces ≡ span_pieces order span → IsLineOf order (cut_list span.lower ++ cut_list span.upper) (λ below. span_at below span) line
  span_line span line s p =
      let a : Line V = record { starts = is_absent span.lower; pieces = ends_of span.lower true } in
      let b : Line V = record { starts = true; pieces = ends_of span.upper false } in
      line_same _ _ _ (λ below. span_at below span) line refl (λ below place. λ i. join_by true (over_is below span.lower i) (under_is below span.upper i))
      (line_joined true (cut_list span.lower) (cut_list span.upper) (λ below. pieces_at below (is_absent span.lower) (ends_of span.lower true)) (λ below. pieces_at below true (ends_of span.upper false)) a b line
      (line_above (is_absent span.lower) true span.lower a refl refl) (line_above true false span.upper b refl refl) (s ∙ starts_and (is_absent span.lower)) p)

  pub span_changes : (span : Span V) (joined : Joined V) → joined.starts_in ≡ is_absent span.lower → joined.cuts ≡ changes_of (is_absent span.lower) (span_pieces order span) → AreChangesOf order (cut_list span.lower ++ cut_list span.upper) (λ below. span_at below span) joined
  span_changes span joined starts_are cuts_are =
      let line : Line V = record { starts = is_absent span.lower; pieces = span_pieces order span } in
      record { line = line; is = span_line span line refl refl; starts = starts_are; cuts = cuts_are }

-- ---- lists of parts
module _ {V X : Type 0} (cuts : X → List (Cut V)) where
  all_cuts-append : (xs ys : List X) → all_cuts cuts (xs ++ ys) ≡ all_cuts cuts xs ++ all_cuts cuts ys
  all_cuts-append [] ys = refl
  all_cuts-append (x ∷ xs) ys = ap (λ l. cuts x ++ l) (all_cuts-append xs ys) ∙ sym (append_assoc (cuts x) (all_cuts cuts xs) (all_cuts cuts ys))

  counted : (b : Bool) (m n k : ℕ) → m ≡ n + k → cond b (suc m) m ≡ cond b (suc n) n + k
  counted true m n k e = omega arith
  counted false m n k e = e

  with_cuts-append : (xs ys : List X) → with_cuts cuts (xs ++ ys) ≡ with_cuts cuts xs + with_cuts cuts ys
  with_cuts-append [] ys = omega arith
  with_cuts-append (x ∷ xs) ys = counted (has_item (cuts x)) _ _ _ (with_cuts-append xs ys)

  no_item : (items : List (Cut V)) → has_item items ≡ false → items ≡ []
  no_item [] e = refl
  no_item (c ∷ items) e = absurd (cc)

  none_by : (b : Bool) (n : ℕ) → cond b (suc n) n ≡ 0 → (b ≡ false) × (n ≡ 0)
  none_by true n e = absurd (omega arith)
  none_by false n e = (refl, e)

  pub no_cuts : (parts : List X) → with_cuts cuts parts ≡ 0 → all_cuts cuts parts ≡ []
  no_cuts [] e = refl
  no_cuts (x ∷ parts) e =
      let both = none_by (has_item (cuts x)) (with_cuts cuts parts) e in
      (λ i. no_item (cuts x) both.0 i ++ no_cuts parts both.1 i)

  -- what was taken off has no more cuts than all
  pub taken_fewer : (all new : List X) → all ≡ new ++ drop (length new) all → length (all_cuts cuts (drop (length new) all)) ≤ length (all_cuts cuts all)
  taken_fewer all new split =
      let whole = ap (λ l. length (all_cuts cuts l)) split ∙ ap length (all_cuts-append new (drop (length new) all)) in
      omega (arith, length-append (all_cuts cuts new) (all_cuts cuts (drop (length new) all)))

  -- and none, where all have none
  pub none_taken : (all new : List X) → all ≡ new ++ drop (length new) all → with_cuts cuts all ≡ 0 → length (all_cuts cuts (drop (length new) all)) ≡ 0
  none_taken all new split none =
      let fewer = taken_fewer all new split in
      let empty = ap length (no_cuts all none) in
      omega arith

  few_by : (items rest : List (Cut V)) (n : ℕ) → n ≤ length rest → cond (has_item items) (suc n) n ≤ length (items ++ rest)
  few_by [] rest n l = l
  few_by (c ∷ items) rest n l = omega (arith, length-append items rest)

  -- there are as many cuts at least
  pub few_parts : (parts : List X) → with_cuts cuts parts ≤ length (all_cuts cuts parts)
  few_parts [] = omega arith
  few_parts (x ∷ parts) = few_by (cuts x) (all_cuts cuts parts) (with_cuts cuts parts) (few_parts parts)

  some_by : (items rest : List (Cut V)) (n : ℕ) → has_item rest ≡ nat_lt 0 n → has_item (items ++ rest) ≡ nat_lt 0 (cond (has_item items) (suc n) n)
  some_by [] rest n e = e
  some_by (c ∷ items) rest n e = sym (lt-ltb 0 (suc n) (omega arith))

  pub some_cut : (parts : List X) → has_item (all_cuts cuts parts) ≡ nat_lt 0 (with_cuts cuts parts)
  some_cut [] = refl
  some_cut (x ∷ parts) = some_by (cuts x) (all_cuts cuts parts) (with_cuts cuts parts) (some_cut parts)

module _ {X : Type 0} (at : X → Bool) where
  all_at-append : (both : Bool) (xs ys : List X) → all_at both at (xs ++ ys) ≡ join_by both (all_at both at xs) (all_at both at ys)
  all_at-append true xs ys = list_all-append at xs ys
  all_at-append false xs ys = list_any-append at xs ys

  all_at-first : (both : Bool) (x : X) (xs : List X) → all_at both at (x ∷ xs) ≡ join_by both (at x) (all_at both at xs)
  all_at-first true x xs = refl
  all_at-first false x xs = refl

  all_at-none : (both : Bool) → all_at both at [] ≡ both
  all_at-none true = refl
  all_at-none false = refl

-- what lies behind a front
behind : {X : Type 0} → (all front back : List X) → all ≡ front ++ back → drop (length front) all ≡ back
behind all front back e = ap (drop (length front)) e ∙ drop-append_seam front back

pub split_again : {X : Type 0} → (all front back : List X) → all ≡ front ++ back → all ≡ front ++ drop (length front) all
split_again all front back e = e ∙ ap (λ l. front ++ l) (sym (behind all front back e))

pub nothing_behind : {X : Type 0} → (all : List X) → all ≡ all ++ drop (length all) all
nothing_behind all = sym (append-nil all) ∙ ap (λ l. all ++ l) (sym (drop-length all))

-- ---- parts that were taken off the end
module _ {V X : Type 0} {order : V → V → Ordering} (o : IsTotalOrder order) (cuts : X → List (Cut V)) (at : (Cut V → Bool) → X → Bool) (both : Bool) where
  -- the parts that were taken off have no cut, and say this of each place
  pub record Skipped (all parts : List X) (inside : Bool) : Type 0 where
    pub split : all ≡ parts ++ drop (length parts) all
    pub even : with_cuts cuts (drop (length parts) all) ≡ 0
    pub value : AtEachPlace order (λ below. all_at both (at below) (drop (length parts) all) ≡ inside)

  pub skipped_none : (all : List X) → Skipped all all both
  skipped_none all = record {
    split = nothing_behind all;
    even = rw (drop-length all) refl;
    value = λ below place. ap (all_at both (at below)) (drop-length all) ∙ all_at-none (at below) both;
  }

  module _ (all parts rest : List X) (part : X) (inside : Bool) (s : Skipped all parts inside) (parts_are : parts ≡ rest ++ part ∷ []) where
    more_split : all ≡ rest ++ (part ∷ drop (length parts) all)
    more_split = s.split ∙ ap (λ l. l ++ drop (length parts) all) parts_are ∙ append_assoc rest (part ∷ []) (drop (length parts) all)

    taken_is : drop (length rest) all ≡ part ∷ drop (length parts) all
    taken_is = behind all rest (part ∷ drop (length parts) all) more_split

    pub taken_split : all ≡ rest ++ drop (length rest) all
    taken_split = split_again all rest (part ∷ drop (length parts) all) more_split

    pub taken_cuts : all_cuts cuts (drop (length rest) all) ≡ cuts part
    taken_cuts =
        ap (all_cuts cuts) taken_is
        ∙ ap (λ l. cuts part ++ l) (no_cuts cuts (drop (length parts) all) s.even)
        ∙ append-nil (cuts part)

    taken_at : (below : Cut V → Bool) → IsPlace (cut_cmp order) below → join_by both inside (at below part) ≡ all_at both (at below) (drop (length rest) all)
    taken_at below place =
        join_by-comm both inside (at below part)
        ∙ ap (join_by both (at below part)) (sym (s.value below place))
        ∙ sym (all_at-first (at below) both part (drop (length parts) all))
        ∙ ap (all_at both (at below)) (sym taken_is)

    pub skipped_more : (line : Line V) (inside' : Bool) → has_item (cuts part) ≡ false → IsLineOf order (cuts part) (λ below. at below part) line → inside' ≡ join_by both line.starts inside → Skipped all rest inside'
    skipped_more line inside' none l inside_is = record {
      split = taken_split;
      even = ap (with_cuts cuts) taken_is ∙ rw none s.even;
      value = λ below place.
          sym (taken_at below place)
          ∙ join_by-comm both inside (at below part)
          ∙ ap (λ b. join_by both b inside) (sym (l.pieces below place) ∙ ap (pieces_at below line.starts) (no_items line.pieces (subst (λ m. length line.pieces ≤ length m) (no_item cuts (cuts part) none) l.few)))
          ∙ sym inside_is;
    }

    pub taken_line : (line c : Line V) → IsLineOf order (cuts part) (λ below. at below part) line → c.starts ≡ join_by both inside line.starts → c.pieces ≡ join_right both inside line.pieces → IsLineOf order (all_cuts cuts (drop (length rest) all)) (λ below. all_at both (at below) (drop (length rest) all)) c
    taken_line line c l starts_is pieces_is =
        line_same o _ _ _ _ c (sym taken_cuts) taken_at (even_joined o both inside (cuts part) (λ below. at below part) line c l starts_is pieces_is)

    pub taken_left : has_item (cuts part) ≡ true → with_cuts cuts rest ≡ with_cuts cuts all - 1
    taken_left some =
        let whole = ap (with_cuts cuts) more_split ∙ with_cuts-append cuts rest (part ∷ drop (length parts) all) in
        let one : with_cuts cuts (part ∷ drop (length parts) all) ≡ 1 = rw (some, s.even) refl in
        omega arith

    pub taken_some : has_item (cuts part) ≡ true → with_cuts cuts all ≡ 0 → rest ≡ []
    taken_some some none =
        let whole = ap (with_cuts cuts) more_split ∙ with_cuts-append cuts rest (part ∷ drop (length parts) all) in
        let one : with_cuts cuts (part ∷ drop (length parts) all) ≡ 1 = rw (some, s.even) refl in
        absurd (omega arith)

  -- all parts were taken off
  module _ (all parts new : List X) (inside : Bool) (s : Skipped all parts inside) (ended : (parts ≡ []) × (new ≡ [])) where
    whole : Skipped all new inside
    whole = subst (λ l. Skipped all l inside) (ended.0 ∙ sym ended.1) s

    pub ended_line : (c : Line V) → c.starts ≡ inside → c.pieces ≡ [] → IsLineOf order (all_cuts cuts (drop (length new) all)) (λ below. all_at both (at below) (drop (length new) all)) c
    ended_line c starts_is pieces_is =
        line_same o [] _ (λ below. inside) _ c (sym (no_cuts cuts (drop (length new) all) whole.even)) (λ below place. sym (whole.value below place)) (line_even o inside c starts_is pieces_is)

  -- ---- two runs of parts, the later one taken off first
  module _ (all mid new : List X) (first : mid ≡ new ++ drop (length new) mid) (second : all ≡ mid ++ drop (length mid) all) where
    runs : all ≡ new ++ (drop (length new) mid ++ drop (length mid) all)
    runs = second ∙ ap (λ l. l ++ drop (length mid) all) first ∙ append_assoc new (drop (length new) mid) (drop (length mid) all)

    both_are : drop (length new) all ≡ drop (length new) mid ++ drop (length mid) all
    both_are = behind all new (drop (length new) mid ++ drop (length mid) all) runs

    pub both_split : all ≡ new ++ drop (length new) all
    both_split = split_again all new (drop (length new) mid ++ drop (length mid) all) runs

    pub both_cuts : all_cuts cuts (drop (length new) all) ≡ all_cuts cuts (drop (length new) mid) ++ all_cuts cuts (drop (length mid) all)
    both_cuts = ap (all_cuts cuts) both_are ∙ all_cuts-append cuts (drop (length new) mid) (drop (length mid) all)

    pub both_count : length (all_cuts cuts (drop (length new) all)) ≡ length (all_cuts cuts (drop (length new) mid)) + length (all_cuts cuts (drop (length mid) all))
    both_count = ap length both_cuts ∙ length-append (all_cuts cuts (drop (length new) mid)) (all_cuts cuts (drop (length mid) all))

    pub fewer_cuts : length (all_cuts cuts mid) ≤ length (all_cuts cuts all)
    fewer_cuts =
        let whole = ap (λ l. length (all_cuts cuts l)) second ∙ ap length (all_cuts-append cuts mid (drop (length mid) all)) in
        omega (arith, length-append (all_cuts cuts mid) (all_cuts cuts (drop (length mid) all)))

    both_at : (below : Cut V → Bool) → join_by both (all_at both (at below) (drop (length new) mid)) (all_at both (at below) (drop (length mid) all)) ≡ all_at both (at below) (drop (length new) all)
    both_at below = sym (all_at-append (at below) both (drop (length new) mid) (drop (length mid) all)) ∙ ap (all_at both (at below)) (sym both_are)

    pub both_line : (a b c : Line V) → IsLineOf order (all_cuts cuts (drop (length new) mid)) (λ below. all_at both (at below) (drop (length new) mid)) a
        → IsLineOf order (all_cuts cuts (drop (length mid) all)) (λ below. all_at both (at below) (drop (length mid) all)) b
        → c.starts ≡ join_by both a.starts b.starts → c.pieces ≡ join_pieces mark_of (cut_cmp order) both a.starts a.pieces b.starts b.pieces
        → IsLineOf order (all_cuts cuts (drop (length new) all)) (λ below. all_at both (at below) (drop (length new) all)) c
    both_line a b c la lb starts_is pieces_is =
        line_same o _ _ _ _ c (sym both_cuts) (λ below place. both_at below) (line_joined o both _ _ _ _ a b c la lb starts_is pieces_is)

  -- ---- what is left in front has no cut
  module _ (all mid new : List X) (first : mid ≡ new ++ drop (length new) mid) (second : all ≡ mid ++ drop (length mid) all) (none : with_cuts cuts mid ≡ 0) (ended : new ≡ []) where
    whole_front : drop (length new) mid ≡ mid
    whole_front = ap (λ l. drop (length l) mid) ended

    pub rest_cuts : all_cuts cuts all ≡ all_cuts cuts (drop (length mid) all)
    rest_cuts = ap (all_cuts cuts) second ∙ all_cuts-append cuts mid (drop (length mid) all) ∙ ap (λ l. l ++ all_cuts cuts (drop (length mid) all)) (no_cuts cuts mid none)

    front_costs_nothing : length (all_cuts cuts (drop (length new) mid)) ≡ 0
    front_costs_nothing = ap (λ l. length (all_cuts cuts l)) whole_front ∙ ap length (no_cuts cuts mid none)

    rest_at : (a : Line V) → IsLineOf order (all_cuts cuts (drop (length new) mid)) (λ below. all_at both (at below) (drop (length new) mid)) a → (below : Cut V → Bool) → IsPlace (cut_cmp order) below → join_by both a.starts (all_at both (at below) (drop (length mid) all)) ≡ all_at both (at below) all
    rest_at a la below place =
        let few = la.few in
        let empty : a.pieces ≡ [] = no_items a.pieces (omega (arith, front_costs_nothing)) in
        let said : a.starts ≡ all_at both (at below) mid = sym (ap (pieces_at below a.starts) empty) ∙ la.pieces below place ∙ ap (all_at both (at below)) whole_front in
        ap (λ b. join_by both b (all_at both (at below) (drop (length mid) all))) said
        ∙ sym (all_at-append (at below) both mid (drop (length mid) all)) ∙ ap (all_at both (at below)) (sym second)

    pub rest_line : (a b c : Line V) → IsLineOf order (all_cuts cuts (drop (length new) mid)) (λ below. all_at both (at below) (drop (length new) mid)) a
        → IsLineOf order (all_cuts cuts (drop (length mid) all)) (λ below. all_at both (at below) (drop (length mid) all)) b
        → c.starts ≡ join_by both a.starts b.starts → c.pieces ≡ join_right both a.starts b.pieces
        → IsLineOf order (all_cuts cuts all) (λ below. all_at both (at below) all) c
    rest_line a b c la lb starts_is pieces_is =
        line_same o _ _ _ _ c (sym rest_cuts) (rest_at a la) (even_joined o both a.starts _ _ b c lb starts_is pieces_is)

-- ---- the words for the cuts of spans, terms and alternatives
module _ {V : Type 0} where
  pub cuts_of_parts : (spans : List (Span V)) → all_cuts (λ (span : Span V). cut_list span.lower ++ cut_list span.upper) spans ≡ cuts_of spans
  cuts_of_parts [] = refl
  cuts_of_parts (span ∷ spans) = ap (λ l. (cut_list span.lower ++ cut_list span.upper) ++ l) (cuts_of_parts spans) ∙ append_assoc (cut_list span.lower) (cut_list span.upper) (cuts_of spans)

  pub terms_cuts_parts : (terms : List (List (Span V))) → all_cuts (λ (term : List (Span V)). cuts_of term) terms ≡ terms_cuts terms
  terms_cuts_parts [] = refl
  terms_cuts_parts (term ∷ terms) = ap (λ l. cuts_of term ++ l) (terms_cuts_parts terms)

  pub made_cuts_parts : (bounds : List (List (List (Span V)))) → all_cuts (λ (terms : List (List (Span V))). terms_cuts terms) bounds ≡ made_cuts bounds
  made_cuts_parts [] = refl
  made_cuts_parts (terms ∷ bounds) = ap (λ l. terms_cuts terms ++ l) (made_cuts_parts bounds)
