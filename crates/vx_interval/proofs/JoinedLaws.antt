-- The joined spans of bounds are determined, and how a set comes to be them.
use Rattle.std.proofs.Common.{subst, ◌≡◌, Bool, false, not, ◌&&◌, ◌||◌, List, [], ◌∷◌, ◌++◌, Option, Some, None, refl, sym, ap, ◌∙◌}
use Rattle.std.specs.declared.cmp.Ordering.{Ordering}
use Rattle.std.specs.Cmp.{IsTotalOrder}
use Rattle.std.specs.Ordering.{is_gt}
use Rattle.std.specs.List.{AllByRecursion}
use Rattle.vx_scheme.specs.declared.span.Cut.{Cut}
use Rattle.vx_scheme.specs.declared.span.Span.{Span}
use Rattle.vx_scheme.specs.Cuts.{cut_cmp}
use Rattle.vx_spec.specs.Ascending.{IsAscending}
use Rattle.vx_line.specs.Pieces.{cuts_below, changes_of}
use Rattle.vx_line.proofs.ChangeLaws.{All-changes, changes_in_order, changes_mean}
use Rattle.vx_interval.specs.declared.line.Line.{Line}
use Rattle.vx_interval.specs.declared.bounds.Joined.{Joined}
use Rattle.vx_interval.specs.Steps.Lines.{IsLineOf, AreChangesOf}
use Rattle.vx_line.specs.Line.{IsPlace, IsLevel, is_in, judged}
use Rattle.vx_line.specs.Least.{first_least}
use Rattle.vx_line.proofs.Judging.{Depends, each, judged_same, judged_means, judged_in_order, All-judged}
use Rattle.vx_line.proofs.Unique.{above_cut, unique, unique_start}
use Rattle.vx_line.proofs.LeastLaws.{first_least-level, All-first_least, each_found, first_least-alike, own_least}
use Rattle.vx_scheme.specs.Cuts.{cuts_of, cut_list, starts_of, spans_of, spans_at, terms_at, bounds_at, is_over, is_under}
use Rattle.vx_interval.specs.Joined.{terms_cuts, made_cuts, mark_of, IsLeastOf, IsJoined, IsLine, judged_spans}
use Rattle.vx_interval.proofs.SpanLaws.{cut_total, spans_alike, cuts_of_spans_of, seen_in_order}

parts : {X : Type 0} → (P : X → Type 0) (xs ys : List X) → AllByRecursion P (xs ++ ys) → AllByRecursion P xs × AllByRecursion P ys
parts P [] ys h = (tt, h)
parts P (x ∷ xs) ys h = let rest = parts P xs ys h.1 in ((h.0, rest.0), rest.1)

-- what bounds say of a piece depends on their cuts alone
module _ {V : Type 0} (b b' : Cut V → Bool) where
  over_same : (end : Option (Cut V)) → AllByRecursion (λ d. b d ≡ b' d) (cut_list end) → is_over b end ≡ is_over b' end
  over_same None h = refl
  over_same (Some c) h = h.0

  under_same : (end : Option (Cut V)) → AllByRecursion (λ d. b d ≡ b' d) (cut_list end) → is_under b end ≡ is_under b' end
  under_same None h = refl
  under_same (Some c) h = ap not h.0

  spans_same : (spans : List (Span V)) → AllByRecursion (λ d. b d ≡ b' d) (cuts_of spans) → spans_at b spans ≡ spans_at b' spans
  spans_same [] h = refl
  spans_same (span ∷ spans) h =
      let lower = parts (λ d. b d ≡ b' d) (cut_list span.lower) (cut_list span.upper ++ cuts_of spans) h in
      let upper = parts (λ d. b d ≡ b' d) (cut_list span.upper) (cuts_of spans) lower.1 in
      λ i. (over_same span.lower lower.0 i && under_same span.upper upper.0 i) || spans_same spans upper.1 i

  terms_same : (terms : List (List (Span V))) → AllByRecursion (λ d. b d ≡ b' d) (terms_cuts terms) → terms_at b terms ≡ terms_at b' terms
  terms_same [] h = refl
  terms_same (term ∷ terms) h =
      let both = parts (λ d. b d ≡ b' d) (cuts_of term) (terms_cuts terms) h in
      λ i. spans_same term both.0 i && terms_same terms both.1 i

  pub bounds_same : (bounds : List (List (List (Span V)))) → AllByRecursion (λ d. b d ≡ b' d) (made_cuts bounds) → bounds_at b bounds ≡ bounds_at b' bounds
  bounds_same [] h = refl
  bounds_same (terms ∷ bounds) h =
      let both = parts (λ d. b d ≡ b' d) (terms_cuts terms) (made_cuts bounds) h in
      λ i. terms_same terms both.0 i || bounds_same bounds both.1 i

module _ {V : Type 0} {order : V → V → Ordering} (o : IsTotalOrder order) where
  some_is : (x y : Cut V) (a b : Option (Cut V)) → a ≡ Some x → b ≡ Some y → a ≡ b → x ≡ y
  some_is x y a b e f g = cc (e, f, g)

  same_carried : (made cs ds : List (Cut V)) → IsLevel (cut_cmp order) cs ds → AllByRecursion (λ c. IsLeastOf order made c) cs → AllByRecursion (λ c. IsLeastOf order made c) ds → cs ≡ ds
  same_carried made [] [] l h g = refl
  same_carried made [] (d ∷ ds) l h g = absurd l
  same_carried made (c ∷ cs) [] l h g = absurd l
  same_carried made (c ∷ cs) (d ∷ ds) l h g =
      let one : c ≡ d = some_is c d _ _ h.0 g.0 (first_least-alike mark_of (cut_total o) c d made l.0) in
      λ i. one i ∷ same_carried made cs ds l.1 h.1 g.1 i

  said : (bounds : List (List (List (Span V)))) (s t : List (Span V)) → IsJoined order bounds s → IsJoined order bounds t → (below : Cut V → Bool) → IsPlace (cut_cmp order) below → is_in below (starts_of s) (cuts_of s) ≡ is_in below (starts_of t) (cuts_of t)
  said bounds s t j k below place =
      sym (spans_alike order place (starts_of s) (cuts_of s) j.in_order.rising) ∙ ap (spans_at below) j.in_order.apart ∙ j.pieces below place
      ∙ sym (k.pieces below place) ∙ ap (spans_at below) (sym k.in_order.apart) ∙ spans_alike order place (starts_of t) (cuts_of t) k.in_order.rising

  -- bounds have one list of joined spans
  pub joined_unique : (bounds : List (List (List (Span V)))) (s t : List (Span V)) → IsJoined order bounds s → IsJoined order bounds t → s ≡ t
  joined_unique bounds s t j k =
      let starts : starts_of s ≡ starts_of t = unique_start (cut_total o) (starts_of s) (starts_of t) (cuts_of s) (cuts_of t) (said bounds s t j k) in
      let level = unique (cut_total o) (starts_of s) (cuts_of s) (cuts_of t) j.in_order.rising k.in_order.rising (λ below place. said bounds s t j k below place ∙ ap (λ p. is_in below p (cuts_of t)) (sym starts)) in
      let cuts = same_carried (made_cuts bounds) (cuts_of s) (cuts_of t) level j.carried k.carried in
      sym j.in_order.apart ∙ (λ i. spans_of (starts i) (cuts i)) ∙ k.in_order.apart

  -- ---- the cuts of a line are the least of the made ones
  carry : (made table : List (Cut V)) → IsLine order made table → (items : List (Cut V)) → AllByRecursion (λ c. first_least mark_of (cut_cmp order) c table ≡ Some c) items → AllByRecursion (λ c. IsLeastOf order made c) items
  carry made table t [] h = tt
  carry made table t (c ∷ items) h = (sym (t.least c) ∙ h.0, carry made table t items h.1)

  -- ---- the cuts at which the line of bounds changes
  pub changes_joined : (bounds : List (List (List (Span V)))) (line : Line V) (changes : List (Cut V)) → IsLineOf order (made_cuts bounds) (λ below. bounds_at below bounds) line → changes ≡ changes_of line.starts line.pieces → IsJoined order bounds (spans_of line.starts changes) × IsAscending (cut_cmp order) changes
  changes_joined bounds line changes l changes_are =
      let rise : IsAscending (cut_cmp order) changes = subst (IsAscending (cut_cmp order)) (sym changes_are) (changes_in_order (cut_total o) line.starts line.pieces l.cuts.in_order) in
      let least : AllByRecursion (IsLeastOf order (made_cuts bounds)) changes =
      subst (AllByRecursion (IsLeastOf order (made_cuts bounds))) (sym changes_are)
      (All-changes (IsLeastOf order (made_cuts bounds)) line.starts line.pieces (carry (made_cuts bounds) (cuts_below line.pieces) l.cuts (cuts_below line.pieces) (own_least mark_of (cut_total o) (cuts_below line.pieces) l.cuts.in_order))) in (
        record {
          pieces = λ below place.
              spans_alike order place line.starts changes rise
              ∙ ap (is_in below line.starts) changes_are
              ∙ changes_mean (cut_total o) place line.starts line.pieces l.cuts.in_order
              ∙ l.pieces below place;
          in_order = seen_in_order order line.starts changes (spans_of line.starts changes) refl rise;
          carried = subst (AllByRecursion (IsLeastOf order (made_cuts bounds))) (sym (cuts_of_spans_of line.starts changes)) least;
        },
        rise,
      )

  pub joined_by : (bounds : List (List (List (Span V)))) (joined : Joined V) → AreChangesOf order (made_cuts bounds) (λ below. bounds_at below bounds) joined → IsJoined order bounds (spans_of joined.starts_in joined.cuts) × IsAscending (cut_cmp order) joined.cuts
  joined_by bounds joined a =
      let j = changes_joined bounds a.line joined.cuts a.is a.cuts in
      (subst (λ (starts : Bool). IsJoined order bounds (spans_of starts joined.cuts)) (sym a.starts) j.0, j.1)

  -- ---- each piece between neighbouring cuts of the line, judged
  module _ (bounds : List (List (List (Span V)))) (line : List (Cut V)) (t : IsLine order (made_cuts bounds) line) where
    abbrev test : (Cut V → Bool) → Bool
    test below = bounds_at below bounds

    -- the cut of the line that is order-equal
    abbrev own : Option (Cut V) → Cut V → Cut V
    own None c = c
    own (Some d) c = d

    abbrev on_line : Cut V → Cut V
    on_line c = own (first_least mark_of (cut_cmp order) c line) c

    own_alike : (below : Cut V → Bool) → IsPlace (cut_cmp order) below → (c : Cut V) (r : Option (Cut V)) → first_least mark_of (cut_cmp order) c line ≡ r → below (own r c) ≡ below c
    own_alike below place c None e = refl
    own_alike below place c (Some d) e = place.alike d c (first_least-level mark_of (cut_total o) c d line e)

    -- at a place, cuts may stand for those of the line
    test_alike : (below : Cut V → Bool) → IsPlace (cut_cmp order) below → test (λ c. below (on_line c)) ≡ test below
    test_alike below place = bounds_same (λ c. below (on_line c)) below bounds (each (cut_total o) (made_cuts bounds) (λ c. own_alike below place c (first_least mark_of (cut_cmp order) c line) refl))

    own_same : (b b' : Cut V → Bool) → AllByRecursion (λ d. b d ≡ b' d) line → (c : Cut V) (r : Option (Cut V)) → first_least mark_of (cut_cmp order) c line ≡ r → (r ≡ None → ⊥) → b (own r c) ≡ b' (own r c)
    own_same b b' h c None e f = absurd (f refl)
    own_same b b' h c (Some d) e f = All-first_least mark_of (cut_total o) (λ d. b d ≡ b' d) c d line h e

    all_same : (b b' : Cut V → Bool) → AllByRecursion (λ d. b d ≡ b' d) line → (cuts : List (Cut V)) → AllByRecursion (λ c. first_least mark_of (cut_cmp order) c (made_cuts bounds) ≡ None → ⊥) cuts → AllByRecursion (λ c. b (on_line c) ≡ b' (on_line c)) cuts
    all_same b b' h [] f = tt
    all_same b b' h (c ∷ cuts) f =
        (own_same b b' h c (first_least mark_of (cut_cmp order) c line) refl (λ n. f.0 (sym (t.least c) ∙ n)), all_same b b' h cuts f.1)

    -- and then the judge looks at the line alone
    test_depends : Depends (cut_total o) (λ b. test (λ c. b (on_line c))) line
    test_depends b b' h = bounds_same (λ c. b (on_line c)) (λ c. b' (on_line c)) bounds (all_same b b' h (made_cuts bounds) (each_found mark_of (cut_total o) (made_cuts bounds)))

    abbrev lowest : Bool
    lowest = bounds_at (λ c. false) bounds

    abbrev cuts : List (Cut V)
    cuts = judged (cut_cmp order) test lowest line

    cuts_rise : IsAscending (cut_cmp order) cuts
    cuts_rise = judged_in_order (cut_total o) test lowest line t.in_order

    cuts_mean : (below : Cut V → Bool) → IsPlace (cut_cmp order) below → is_in below lowest cuts ≡ bounds_at below bounds
    cuts_mean below place =
        ap (is_in below lowest) (judged_same (cut_total o) test (λ b. test (λ c. b (on_line c))) lowest line (each (cut_total o) line (λ e. sym (test_alike (λ d. not (is_gt (cut_cmp order d e))) (above_cut (cut_total o) e)))))
        ∙ judged_means (cut_total o) line t.in_order (λ b. test (λ c. b (on_line c))) test_depends lowest refl below place
        ∙ test_alike below place

    judged_is_joined : IsJoined order bounds (judged_spans order bounds line)
    judged_is_joined = record {
      pieces = λ below place. spans_alike order place lowest cuts cuts_rise ∙ cuts_mean below place;
      in_order = seen_in_order order lowest cuts (judged_spans order bounds line) refl cuts_rise;
      carried = subst (AllByRecursion (IsLeastOf order (made_cuts bounds))) (sym (cuts_of_spans_of lowest cuts))
          (All-judged (cut_total o) (IsLeastOf order (made_cuts bounds)) test lowest line (carry (made_cuts bounds) line t line (own_least mark_of (cut_total o) line t.in_order)));
    }

    pub judged_joined : (spans : List (Span V)) → IsJoined order bounds spans → spans ≡ judged_spans order bounds line
    judged_joined spans j = joined_unique bounds spans (judged_spans order bounds line) j judged_is_joined

  no_cuts : (list : List (Cut V)) → IsLevel (cut_cmp order) list [] → list ≡ []
  no_cuts [] l = refl
  no_cuts (c ∷ rest) l = absurd l

  -- where no place is in, there is no span
  pub joined_none : (bounds : List (List (List (Span V)))) (spans : List (Span V)) → IsJoined order bounds spans → ((below : Cut V → Bool) → IsPlace (cut_cmp order) below → bounds_at below bounds ≡ false) → spans ≡ []
  joined_none bounds spans j none =
      let out : (below : Cut V → Bool) → IsPlace (cut_cmp order) below → is_in below (starts_of spans) (cuts_of spans) ≡ false = λ below place.
      sym (spans_alike order place (starts_of spans) (cuts_of spans) j.in_order.rising) ∙ ap (spans_at below) j.in_order.apart ∙ j.pieces below place ∙ none below place in
      let starts : starts_of spans ≡ false = unique_start (cut_total o) (starts_of spans) false (cuts_of spans) [] out in
      let cuts : cuts_of spans ≡ [] = no_cuts (cuts_of spans) (unique (cut_total o) (starts_of spans) (cuts_of spans) [] j.in_order.rising tt (λ below place. out below place ∙ sym starts)) in
      sym j.in_order.apart ∙ (λ i. spans_of (starts i) (cuts i))
