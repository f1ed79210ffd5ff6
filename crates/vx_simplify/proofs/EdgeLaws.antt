-- The cuts of a list hold what the list means.
use Rattle.std.proofs.Common.{◌≡◌, ℕ, ◌+◌, Bool, true, false, ◌&&◌, ◌||◌, not, cond, List, [], ◌∷◌, ◌⊎◌, filter, refl, sym, ap, ◌∙◌, inl, inr}
use Rattle.std.specs.declared.cmp.Ordering.{Ordering}
use Rattle.std.specs.declared.cmp.Ordering.TheVariants.{Less, Equal, Greater}
use Rattle.std.specs.Ordering.{is_lt, is_eq}
use Rattle.std.specs.Cmp.{IsTotalOrder}
use Rattle.vx_scheme.specs.declared.span.Cut.{Cut}
use Rattle.vx_scheme.specs.Cuts.{stands_below, cut_below}
use Rattle.vx_line.specs.Line.{is_in, emit}
use Rattle.vx_line.proofs.Merging.{emitted}
use Rattle.vx_interval.proofs.SpanLaws.{cut_total, version_place}
use Rattle.vx_vers.specs.declared.constraints.Comparator.{Comparator}
use Rattle.vx_vers.specs.declared.constraints.Comparator.TheVariants.{Equal as EqualTo, NotEqual as NotEqualTo, Less as LessThan, LessEqual as AtMost, Greater as GreaterThan, GreaterEqual as AtLeast}
use Rattle.vx_vers.specs.declared.constraints.Constraint.{Constraint}
use Rattle.vx_vers.specs.Meaning.{Kind, point, hole, opening, closing, kind_of_comparator, kind, opens_next, opens_last, side_at, side, is_under_equal, is_under_not_equal, closes_above}
use Rattle.vx_vers.specs.Sorted.{IsSorted}
use Rattle.vx_simplify.specs.Edges.{cuts_after, cut_at, is_piece_in, edges_at, edges}
use Rattle.vx_vers.proofs.Sides.{AllAt, not_point, not_hole, upper_opens, upper_closes, upper_equal, upper_not_equal, above}

abbrev is_range : Kind → Bool
is_range point = false
is_range hole = false
is_range opening = true
is_range closing = true

same_side : (k : Comparator) (r : Ordering) → is_range (kind_of_comparator k) ≡ true → (side_at k r ≡ Less) × (stands_below r (cuts_after k) ≡ true) ⊎ (side_at k r ≡ Greater) × (stands_below r (cuts_after k) ≡ false)
same_side k Less e = inl (refl, refl)
same_side k Greater e = inr (refl, refl)
same_side EqualTo Equal e = cc
same_side NotEqualTo Equal e = cc
same_side LessThan Equal e = inl (refl, refl)
same_side AtMost Equal e = inr (refl, refl)
same_side GreaterThan Equal e = inr (refl, refl)
same_side AtLeast Equal e = inl (refl, refl)

not_less : (after : Bool) (r : Ordering) → stands_below r after ≡ false → is_lt r ≡ false
not_less after Less b = cc
not_less after Equal b = refl
not_less after Greater b = refl

module _ {V : Type 0} {R : V → V → Ordering} (o : IsTotalOrder R) (v : V) (holes : Bool) where
  abbrev below : Cut V → Bool
  below c = cut_below R c v

  -- what the constraints that are left mean, where `p` says whether the last cut in front opens
  abbrev pub meaning_from : Bool → List (Constraint V) → Bool
  meaning_from p list = is_under_equal R v list || (not (is_under_not_equal R v list) && ((opens_last kind p (filter (λ c. is_lt (side R v c)) list) || closes_above R v list) || holes))

  upper_from : (p : Bool) (ys : List (Constraint V)) → AllAt R v Greater ys → meaning_from p ys ≡ is_piece_in holes p ys
  upper_from p ys h = rw (upper_equal R v ys h, upper_not_equal R v ys h, upper_opens R v p ys h, upper_closes R v ys h) refl

  lower_from : (p : Bool) (c : Constraint V) (list : List (Constraint V)) → side R v c ≡ Less → meaning_from p (c ∷ list) ≡ meaning_from (opens_next p (kind c)) list
  lower_from p c list s = rw (not_point c.comparator (R c.version v) (ap is_eq s), not_hole c.comparator (R c.version v) (ap is_eq s), s) refl

  -- one constraint of a range
  range_step : (p : Bool) (n : ℕ) (c : Constraint V) (list : List (Constraint V)) (rest : List (Cut V)) → is_range (kind c) ≡ true → (is_lt (R c.version v) ≡ false → AllAt R v Greater list)
      → is_in below (is_piece_in holes (opens_next p (kind c)) list) rest ≡ meaning_from (opens_next p (kind c)) list
      → is_in below (is_piece_in holes p (c ∷ list)) (emit (is_piece_in holes p (c ∷ list)) (is_piece_in holes (opens_next p (kind c)) list) (cut_at n (cuts_after c.comparator) c) rest) ≡ meaning_from p (c ∷ list)
  range_step p n c list rest e g i =
      let h : stands_below (R c.version v) (cuts_after c.comparator) ≡ false → AllAt R v Greater list = λ b. g (not_less (cuts_after c.comparator) (R c.version v) b) in
      emitted (cut_total o) (version_place o v) (is_piece_in holes p (c ∷ list)) (is_piece_in holes (opens_next p (kind c)) list) (cut_at n (cuts_after c.comparator) c) rest (λ b. i ∙ upper_from (opens_next p (kind c)) list (h b))
      ∙ elim (same_side c.comparator (R c.version v) e) [
        | inl s ↦ rw s.1 (i ∙ sym (lower_from p c list s.0))
        | inr s ↦ rw s.1 (sym (upper_from p (c ∷ list) (s.0, h s.1)))
      ]

  -- a point, where w is true, or a hole, where it is false
  two_cuts : (p w : Bool) (n : ℕ) (c : Constraint V) (list : List (Constraint V)) (rest : List (Cut V)) (r : Ordering) → R c.version v ≡ r → (R c.version v ≡ Equal → w ≡ meaning_from p (c ∷ list)) → (is_lt (R c.version v) ≡ false → AllAt R v Greater list)
      → is_in below (is_piece_in holes (opens_next p (kind c)) list) rest ≡ meaning_from (opens_next p (kind c)) list
      → is_in below (is_piece_in holes p (c ∷ list)) (emit (is_piece_in holes p (c ∷ list)) w (cut_at n false c) (emit w (is_piece_in holes (opens_next p (kind c)) list) (cut_at n true c) rest)) ≡ meaning_from p (c ∷ list)
  two_cuts p w n c list rest r f m g i =
      let x = is_piece_in holes p (c ∷ list) in
      let y = is_piece_in holes (opens_next p (kind c)) list in
      let second : is_in below w (emit w y (cut_at n true c) rest) ≡ cond (stands_below (R c.version v) true) (is_in below y rest) w =
      emitted (cut_total o) (version_place o v) w y (cut_at n true c) rest (λ b. i ∙ upper_from (opens_next p (kind c)) list (g (not_less true (R c.version v) b))) in
      emitted (cut_total o) (version_place o v) x w (cut_at n false c) (emit w y (cut_at n true c) rest) (λ b. second ∙ cut_before (R c.version v) (is_in below y rest) w b)
      ∙ ap (λ t. cond (stands_below (R c.version v) false) t x) second
      ∙ last r f
    where
      cut_before : (r : Ordering) (t w : Bool) → stands_below r false ≡ false → cond (stands_below r true) t w ≡ w
      cut_before Less t w b = cc
      cut_before Equal t w b = refl
      cut_before Greater t w b = refl

      last : (r : Ordering) → R c.version v ≡ r → cond (stands_below (R c.version v) false) (cond (stands_below (R c.version v) true) (is_in below (is_piece_in holes (opens_next p (kind c)) list) rest) w) (is_piece_in holes p (c ∷ list)) ≡ meaning_from p (c ∷ list)
      last Less f = ap (λ r. cond (stands_below r false) (cond (stands_below r true) (is_in below (is_piece_in holes (opens_next p (kind c)) list) rest) w) (is_piece_in holes p (c ∷ list))) f ∙ i ∙ sym (lower_from p c list (ap (side_at c.comparator) f))
      last Equal f = ap (λ r. cond (stands_below r false) (cond (stands_below r true) (is_in below (is_piece_in holes (opens_next p (kind c)) list) rest) w) (is_piece_in holes p (c ∷ list))) f ∙ m f
      last Greater f = ap (λ r. cond (stands_below r false) (cond (stands_below r true) (is_in below (is_piece_in holes (opens_next p (kind c)) list) rest) w) (is_piece_in holes p (c ∷ list))) f ∙ sym (upper_from p (c ∷ list) (ap (side_at c.comparator) f, g (ap is_lt f)))

  step : (p : Bool) (n : ℕ) (c : Constraint V) (list : List (Constraint V)) (rest : List (Cut V)) (k : Kind) → kind c ≡ k → (is_lt (R c.version v) ≡ false → AllAt R v Greater list)
      → is_in below (is_piece_in holes (opens_next p (kind c)) list) rest ≡ meaning_from (opens_next p (kind c)) list
      → is_in below (is_piece_in holes p (c ∷ list)) (edges_at k (is_piece_in holes p (c ∷ list)) (is_piece_in holes (opens_next p (kind c)) list) n c rest) ≡ meaning_from p (c ∷ list)
  step p n c list rest point e g i = two_cuts p true n c list rest (R c.version v) refl (λ f. rw (e, f) refl) g i
  step p n c list rest hole e g i = two_cuts p false n c list rest (R c.version v) refl (λ f. rw (e, f, upper_equal R v list (g (ap is_lt f))) refl) g i
  step p n c list rest opening e g i = range_step p n c list rest (ap is_range e) g i
  step p n c list rest closing e g i = range_step p n c list rest (ap is_range e) g i

  -- at a version, the cuts of a list say what the list means
  pub edges_mean : (p : Bool) (n : ℕ) (list : List (Constraint V)) → IsSorted R list → is_in below (is_piece_in holes p list) (edges holes p n list) ≡ meaning_from p list
  edges_mean p n [] s = refl
  edges_mean p n (c ∷ list) s = step p n c list (edges holes (opens_next p (kind c)) (n + 1) list) (kind c) refl (λ l. above o v c.version list l s.0) (edges_mean (opens_next p (kind c)) (n + 1) list s.1)
