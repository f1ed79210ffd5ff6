-- The cuts of the list of some cuts are these, up to order-equal ones, so the list means what they say.
use Rattle.std.proofs.Common.{◌≡◌, ◌≢◌, ℕ, ◌+◌, Bool, true, false, ◌||◌, not, cond, List, [], ◌∷◌, refl, sym, ap, ◌∙◌}
use Rattle.std.specs.declared.cmp.Ordering.{Ordering}
use Rattle.std.specs.declared.cmp.Ordering.TheVariants.{Equal}
use Rattle.std.specs.Ordering.{is_eq, bool_cmp}
use Rattle.std.specs.Cmp.{IsTotalOrder}
use Rattle.std.proofs.lemmas.Cmp.{tied_itself}
use Rattle.std.proofs.lemmas.Bool.{cond_both}
use Rattle.vx_spec.specs.Ascending.{IsAscending}
use Rattle.vx_scheme.specs.declared.span.Cut.{Cut}
use Rattle.vx_scheme.specs.declared.span.Span.{Span}
use Rattle.vx_scheme.specs.Cuts.{cut_cmp, cut_below, cuts_of, starts_of, spans_of, in_spans, IsInOrder}
use Rattle.vx_line.specs.Line.{IsPlace, IsLevel, is_in}
use Rattle.vx_interval.proofs.SpanLaws.{version_place, has_by_cuts}
use Rattle.vx_vers.specs.declared.constraints.Constraint.{Constraint}
use Rattle.vx_vers.specs.Meaning.{Kind, opening, closing, kind_of_comparator, kind, opens_next, closes_first, meaning}
use Rattle.vx_simplify.specs.Edges.{is_piece_in, edges, cut_at, cuts_after, all_holes}
use Rattle.vx_simplify.specs.Listed.{bound, exact, with, is_class, listed, list_of}
use Rattle.vx_simplify.proofs.EdgeLaws.{edges_mean}
use Rattle.vx_simplify.proofs.ListedOrder.{and_three, eq_of, listed_in_order}

abbrev range_kind : Bool → Kind
range_kind false = opening
range_kind true = closing

kind_bound : (inside after : Bool) → kind_of_comparator (bound inside after) ≡ range_kind inside
kind_bound false false = refl
kind_bound false true = refl
kind_bound true false = refl
kind_bound true true = refl

bound_side : (inside after : Bool) → cuts_after (bound inside after) ≡ after
bound_side false false = refl
bound_side false true = refl
bound_side true false = refl
bound_side true true = refl

any_true : (before holes : Bool) → ((before || true) || holes) ≡ true
any_true true holes = refl
any_true false holes = refl

-- order-equal cuts say the same of every place
pub level_means : {C : Type 0} {R : C → C → Ordering} {below : C → Bool} → IsPlace R below → (p : Bool) (cs ds : List C) → IsLevel R cs ds → is_in below p cs ≡ is_in below p ds
level_means place p [] [] l = refl
level_means place p [] (d ∷ ds) l = absurd l
level_means place p (c ∷ cs) [] l = absurd l
level_means place p (c ∷ cs) (d ∷ ds) l = λ i. cond (place.alike c d l.0 i) (level_means place (not p) cs ds l.1 i) p

module _ {V : Type 0} {R : V → V → Ordering} (o : IsTotalOrder R) where
  -- outside, the first constraint of a range that comes opens
  closes_none : (cuts : List (Cut V)) → closes_first kind (listed R false cuts) false ≡ false
  closes_none [] = refl
  closes_none (c ∷ []) = rw (kind_bound false c.after) refl
  closes_none (c ∷ d ∷ cuts) =
      cond_both (is_class R c d) (with (exact false) c ∷ listed R false cuts) (with (bound false c.after) c ∷ listed R true (d ∷ cuts)) (λ w. closes_first kind w false ≡ false)
      (λ t. closes_none cuts) (λ t. rw (kind_bound false c.after) refl)

  -- how things stand in front of a list: outside, the last cut does not open; inside, the piece is in
  abbrev IsState : Bool → Bool → Bool → List (Constraint V) → Type 0
  IsState false holes before list = (holes ≡ false) × (before ≡ false)
  IsState true holes before list = is_piece_in holes before list ≡ true

  -- the list begins as the cuts do, and its cuts are these, up to order-equal ones
  abbrev pub Holds : Bool → Bool → Bool → ℕ → List (Constraint V) → List (Cut V) → Type 0
  Holds inside holes before n list cuts = (is_piece_in holes before list ≡ inside) × IsLevel (cut_cmp R) (edges holes before n list) cuts

  cut_itself : (n : ℕ) (c : Cut V) (after : Bool) → after ≡ c.after → cut_cmp R (record { version = c.version; after = after; mark = n }) c ≡ Equal
  cut_itself n c after e = rw (e, tied_itself o c.version) (same c.after)
    where
      same : (b : Bool) → bool_cmp b b ≡ Equal
      same true = refl
      same false = refl

  -- a constraint of a range
  range_step : (inside holes before : Bool) (n : ℕ) (c : Cut V) (rest : List (Constraint V)) (cuts : List (Cut V)) → IsState inside holes before (with (bound inside c.after) c ∷ rest)
      → (inside ≡ false → closes_first kind (with (bound inside c.after) c ∷ rest) false ≡ false)
      → Holds (not inside) holes (opens_next before (range_kind inside)) (n + 1) rest cuts → Holds inside holes before n (with (bound inside c.after) c ∷ rest) (c ∷ cuts)
  range_step false holes before n c rest cuts state closes next =
      let first : is_piece_in holes before (with (bound false c.after) c ∷ rest) ≡ false = rw (state.0, state.1, closes refl) refl in
      (first, rw (kind_bound false c.after, next.0, state.0, state.1) (cut_itself n c (cuts_after (bound false c.after)) (bound_side false c.after), next.1))
  range_step true holes before n c rest cuts state closes next =
      (state, rw (kind_bound true c.after) (rw (next.0, any_true before holes) (cut_itself n c (cuts_after (bound true c.after)) (bound_side true c.after), next.1)))

  -- the upper cut of one order class
  upper_level : (n : ℕ) (k : Bool) (c d : Cut V) → (c.after ≡ false) × ((d.after ≡ true) × (is_eq (R c.version d.version) ≡ true)) → cut_cmp R (cut_at n true (with (exact k) c)) d ≡ Equal
  upper_level n k c d class = rw (class.1.0, eq_of (R c.version d.version) class.1.1) refl

  point_step : (holes before : Bool) (n : ℕ) (c d : Cut V) (rest : List (Constraint V)) (cuts : List (Cut V)) → (c.after ≡ false) × ((d.after ≡ true) × (is_eq (R c.version d.version) ≡ true)) → (holes ≡ false) × (before ≡ false) → closes_first kind rest false ≡ false
      → Holds false holes before (n + 1) rest cuts → Holds false holes before n (with (exact false) c ∷ rest) (c ∷ d ∷ cuts)
  point_step holes before n c d rest cuts class state closes next =
      let first : is_piece_in holes before (with (exact false) c ∷ rest) ≡ false = rw (state.0, state.1, closes) refl in
      (first, rw next.0 (cut_itself n c false (sym class.0), (upper_level n false c d class, next.1)))

  hole_step : (holes before : Bool) (n : ℕ) (c d : Cut V) (rest : List (Constraint V)) (cuts : List (Cut V)) → (c.after ≡ false) × ((d.after ≡ true) × (is_eq (R c.version d.version) ≡ true)) → is_piece_in holes before rest ≡ true
      → Holds true holes before (n + 1) rest cuts → Holds true holes before n (with (exact true) c ∷ rest) (c ∷ d ∷ cuts)
  hole_step holes before n c d rest cuts class state next =
      (state, rw state (cut_itself n c false (sym class.0), (upper_level n true c d class, next.1)))

  not_holes : (holes : Bool) (list : List (Constraint V)) (inside : Bool) (c : Cut V) → (holes ≡ true → all_holes (with (bound inside c.after) c ∷ list) ≡ true) → holes ≡ false
  not_holes true list false c h = absurd (hole_bound (kind_bound false c.after) (h refl))
    where
      hole_bound : kind (with (bound false c.after) c) ≡ opening → all_holes (with (bound false c.after) c ∷ list) ≡ true → ⊥
      hole_bound e h = cc
  not_holes true list true c h = absurd (hole_bound (kind_bound true c.after) (h refl))
    where
      hole_bound : kind (with (bound true c.after) c) ≡ closing → all_holes (with (bound true c.after) c ∷ list) ≡ true → ⊥
      hole_bound e h = cc
  not_holes false list inside c h = refl

  opening_first : (inside : Bool) (c : Cut V) (rest : List (Constraint V)) → inside ≡ false → closes_first kind (with (bound inside c.after) c ∷ rest) false ≡ false
  opening_first true c rest e = absurd (cc)
  opening_first false c rest e = rw (kind_bound false c.after) refl

  next_state : (inside holes before : Bool) (c : Cut V) (rest next : List (Constraint V)) → (holes ≡ true → all_holes (with (bound inside c.after) c ∷ rest) ≡ true) → IsState (not inside) holes (opens_next before (range_kind inside)) next
  next_state false holes before c rest next h = refl
  next_state true holes before c rest next h = (not_holes holes rest true c h, refl)

  empty_list : (inside holes before : Bool) (n : ℕ) → IsState inside holes before [] → Holds inside holes before n [] []
  empty_list false holes before n state = (rw (state.0, state.1) refl, tt)
  empty_list true holes before n state = (state, tt)

  class_step : (inside holes before : Bool) (n : ℕ) (c d : Cut V) (cuts : List (Cut V)) → is_class R c d ≡ true
      → ((IsState inside holes before (listed R inside cuts)) → (holes ≡ true → all_holes (listed R inside cuts) ≡ true) → Holds inside holes before (n + 1) (listed R inside cuts) cuts)
      → (holes ≡ true → all_holes (with (exact inside) c ∷ listed R inside cuts) ≡ true) → IsState inside holes before (with (exact inside) c ∷ listed R inside cuts) → Holds inside holes before n (with (exact inside) c ∷ listed R inside cuts) (c ∷ d ∷ cuts)
  class_step false holes before n c d cuts t ih h state = point_step holes before n c d (listed R false cuts) cuts (and_three c.after d.after (is_eq (R c.version d.version)) t) state (closes_none cuts) (ih state (λ e. absurd (cc (e, state.0))))
  class_step true holes before n c d cuts t ih h state = hole_step holes before n c d (listed R true cuts) cuts (and_three c.after d.after (is_eq (R c.version d.version)) t) state (ih state h)

  -- the cuts of the list are those it was made of, up to order-equal ones
  pub level_of : (inside holes before : Bool) (n : ℕ) (cuts : List (Cut V)) → (holes ≡ true → all_holes (listed R inside cuts) ≡ true) → IsState inside holes before (listed R inside cuts) → Holds inside holes before n (listed R inside cuts) cuts
  level_of inside holes before n [] h state = empty_list inside holes before n state
  level_of inside holes before n (c ∷ []) h state =
      range_step inside holes before n c [] [] state (opening_first inside c []) (empty_list (not inside) holes (opens_next before (range_kind inside)) (n + 1) (next_state inside holes before c [] [] h))
  level_of inside holes before n (c ∷ d ∷ cuts) h state =
      cond_both (is_class R c d) (with (exact inside) c ∷ listed R inside cuts) (with (bound inside c.after) c ∷ listed R (not inside) (d ∷ cuts))
      (λ w. (holes ≡ true → all_holes w ≡ true) → IsState inside holes before w → Holds inside holes before n w (c ∷ d ∷ cuts))
      (λ t. class_step inside holes before n c d cuts t (λ s e. level_of inside holes before (n + 1) cuts e s))
      (λ t h s. range_step inside holes before n c (listed R (not inside) (d ∷ cuts)) (d ∷ cuts) s (opening_first inside c (listed R (not inside) (d ∷ cuts)))
      (level_of (not inside) holes (opens_next before (range_kind inside)) (n + 1) (d ∷ cuts) (λ e. absurd (cc (e, not_holes holes (listed R (not inside) (d ∷ cuts)) inside c h))) (next_state inside holes before c (listed R (not inside) (d ∷ cuts)) (listed R (not inside) (d ∷ cuts)) h)))
      h state

  -- ---- how things stand in front of the whole list
  first_in : (cuts : List (Cut V)) → is_piece_in (all_holes (listed R true cuts)) false (listed R true cuts) ≡ true
  first_in [] = refl
  first_in (c ∷ []) = rw (kind_bound true c.after) refl
  first_in (c ∷ d ∷ cuts) =
      cond_both (is_class R c d) (with (exact true) c ∷ listed R true cuts) (with (bound true c.after) c ∷ listed R false (d ∷ cuts)) (λ w. is_piece_in (all_holes w) false w ≡ true)
      (λ t. first_in cuts) (λ t. rw (kind_bound true c.after) refl)

  first_out : (c : Cut V) (cuts : List (Cut V)) → all_holes (listed R false (c ∷ cuts)) ≡ false
  first_out c [] = rw (kind_bound false c.after) refl
  first_out c (d ∷ cuts) =
      cond_both (is_class R c d) (with (exact false) c ∷ listed R false cuts) (with (bound false c.after) c ∷ listed R true (d ∷ cuts)) (λ w. all_holes w ≡ false)
      (λ t. refl) (λ t. rw (kind_bound false c.after) refl)

  -- the state in front of the whole list, where there is a span
  first_state : (starts : Bool) (cuts : List (Cut V)) → ((starts ≡ false) × (cuts ≡ []) → ⊥) → IsState starts (all_holes (listed R starts cuts)) false (listed R starts cuts)
  first_state true cuts some = first_in cuts
  first_state false [] some = absurd (some (refl, refl))
  first_state false (c ∷ cuts) some = (first_out c cuts, refl)

  -- where there is a span, the cuts of the list are those it was made of, up to order-equal ones
  pub level_whole : (starts : Bool) (cuts : List (Cut V)) → ((starts ≡ false) × (cuts ≡ []) → ⊥) → Holds starts (all_holes (listed R starts cuts)) false 1 (listed R starts cuts) cuts
  level_whole starts cuts some = level_of starts (all_holes (listed R starts cuts)) false 1 cuts (λ e. e) (first_state starts cuts some)

  -- where there is a span, the list means what the cuts say
  pub listed_means : (starts : Bool) (cuts : List (Cut V)) (v : V) → IsAscending (cut_cmp R) cuts → ((starts ≡ false) × (cuts ≡ []) → ⊥) → meaning R v (listed R starts cuts) ≡ is_in (λ c. cut_below R c v) starts cuts
  listed_means starts cuts v s some =
      let list = listed R starts cuts in
      let holds = level_whole starts cuts some in
      sym (edges_mean o v (all_holes list) false 1 list (listed_in_order o starts cuts s))
      ∙ ap (λ p. is_in (λ c. cut_below R c v) p (edges (all_holes list) false 1 list)) holds.0
      ∙ level_means (version_place o v) starts (edges (all_holes list) false 1 list) cuts holds.1

  -- spans in order that are not none have a cut, or hold every version
  some_cut : (spans : List (Span V)) → IsInOrder R spans → spans ≢ [] → (starts_of spans ≡ false) × (cuts_of spans ≡ []) → ⊥
  some_cut spans s some none = some (sym s.apart ∙ (λ i. spans_of (none.0 i) (none.1 i)))

  -- the list of spans in order has their cuts, up to order-equal ones
  pub list_keeps_cuts : (spans : List (Span V)) → IsInOrder R spans → spans ≢ [] → Holds (starts_of spans) (all_holes (list_of R spans)) false 1 (list_of R spans) (cuts_of spans)
  list_keeps_cuts spans s some = level_whole (starts_of spans) (cuts_of spans) (some_cut spans s some)

  -- the list of spans in order means them, where there is a span
  pub list_means : (spans : List (Span V)) (v : V) → IsInOrder R spans → spans ≢ [] → meaning R v (list_of R spans) ≡ in_spans R spans v
  list_means spans v s some =
      listed_means (starts_of spans) (cuts_of spans) v s.rising (some_cut spans s some)
      ∙ has_by_cuts o (starts_of spans) (cuts_of spans) spans v s.apart s.rising
