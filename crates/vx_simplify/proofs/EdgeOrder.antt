-- The cuts of a list of constraints are in order, and their spans hold what the list means.
use Rattle.std.proofs.Common.{◌≡◌, ℕ, ◌+◌, Bool, true, false, ◌&&◌, List, [], ◌∷◌, ap, sym, refl, ◌∙◌}
use Rattle.std.specs.declared.cmp.Ordering.{Ordering}
use Rattle.std.specs.declared.cmp.Ordering.TheVariants.{Less}
use Rattle.std.specs.Ordering.{ordering_then, bool_cmp}
use Rattle.std.specs.Cmp.{IsTotalOrder}
use Rattle.std.specs.List.{AllByRecursion}
use Rattle.std.proofs.lemmas.Cmp.{tied_itself}
use Rattle.vx_spec.specs.Ascending.{IsAscending}
use Rattle.vx_scheme.specs.declared.span.Cut.{Cut}
use Rattle.vx_scheme.specs.Cuts.{cut_cmp, in_spans, IsInOrder}
use Rattle.vx_line.specs.Line.{emit}
use Rattle.vx_line.proofs.InOrder.{All-emit, emit_in_order}
use Rattle.vx_interval.proofs.SpanLaws.{cut_total, seen_in_order, has_by_cuts}
use Rattle.vx_vers.specs.declared.constraints.Constraint.{Constraint}
use Rattle.vx_vers.specs.Meaning.{Kind, point, hole, opening, closing, kind, opens_next, meaning}
use Rattle.vx_vers.specs.Sorted.{IsSorted}
use Rattle.vx_simplify.specs.Edges.{cuts_after, cut_at, is_piece_in, edges_at, edges, all_holes, starts_in, edges_of, spans_of_list}
use Rattle.vx_simplify.proofs.EdgeLaws.{edges_mean}

module _ {V : Type 0} {R : V → V → Ordering} (o : IsTotalOrder R) (holes : Bool) where
  All-edges_at : (P : Cut V → Type 0) (k : Kind) (x y : Bool) (n : ℕ) (c : Constraint V) (rest : List (Cut V)) → ((b : Bool) → P (cut_at n b c)) → AllByRecursion P rest → AllByRecursion P (edges_at k x y n c rest)
  All-edges_at P point x y n c rest h g = All-emit P x true (cut_at n false c) (emit true y (cut_at n true c) rest) (h false) (All-emit P true y (cut_at n true c) rest (h true) g)
  All-edges_at P hole x y n c rest h g = All-emit P x false (cut_at n false c) (emit false y (cut_at n true c) rest) (h false) (All-emit P false y (cut_at n true c) rest (h true) g)
  All-edges_at P opening x y n c rest h g = All-emit P x y (cut_at n (cuts_after c.comparator) c) rest (h (cuts_after c.comparator)) g
  All-edges_at P closing x y n c rest h g = All-emit P x y (cut_at n (cuts_after c.comparator) c) rest (h (cuts_after c.comparator)) g

  -- what holds of each cut that a constraint may have holds of the cuts of the list
  pub All-edges : (P : Cut V → Type 0) (p : Bool) (n : ℕ) (list : List (Constraint V)) → AllByRecursion (λ c. (m : ℕ) (b : Bool) → P (cut_at m b c)) list → AllByRecursion P (edges holes p n list)
  All-edges P p n [] h = tt
  All-edges P p n (c ∷ list) h = All-edges_at P (kind c) (is_piece_in holes p (c ∷ list)) (is_piece_in holes (opens_next p (kind c)) list) n c (edges holes (opens_next p (kind c)) (n + 1) list) (h.0 n) (All-edges P (opens_next p (kind c)) (n + 1) list h.1)

  further : (n : ℕ) (b : Bool) (c : Constraint V) (list : List (Constraint V)) → AllByRecursion (λ d. R c.version d.version ≡ Less) list → AllByRecursion (λ d. (m : ℕ) (b' : Bool) → cut_cmp R (cut_at n b c) (cut_at m b' d) ≡ Less) list
  further n b c [] h = tt
  further n b c (d ∷ list) h = (λ m b'. ap (λ r. ordering_then r (bool_cmp b b')) h.0, further n b c list h.1)

  before_after : (n : ℕ) (c : Constraint V) → cut_cmp R (cut_at n false c) (cut_at n true c) ≡ Less
  before_after n c = ap (λ r. ordering_then r (bool_cmp false true)) (tied_itself o c.version)

  edges_at_in_order : (k : Kind) (x y : Bool) (n : ℕ) (c : Constraint V) (rest : List (Cut V)) → ((b : Bool) → AllByRecursion (λ d. cut_cmp R (cut_at n b c) d ≡ Less) rest) → IsAscending (cut_cmp R) rest → IsAscending (cut_cmp R) (edges_at k x y n c rest)
  edges_at_in_order point x y n c rest h s =
      emit_in_order (cut_total o) (λ a b. a && b) x true (cut_at n false c) (emit true y (cut_at n true c) rest)
      (All-emit (λ d. cut_cmp R (cut_at n false c) d ≡ Less) true y (cut_at n true c) rest (before_after n c) (h false))
      (emit_in_order (cut_total o) (λ a b. a && b) true y (cut_at n true c) rest (h true) s)
  edges_at_in_order hole x y n c rest h s =
      emit_in_order (cut_total o) (λ a b. a && b) x false (cut_at n false c) (emit false y (cut_at n true c) rest)
      (All-emit (λ d. cut_cmp R (cut_at n false c) d ≡ Less) false y (cut_at n true c) rest (before_after n c) (h false))
      (emit_in_order (cut_total o) (λ a b. a && b) false y (cut_at n true c) rest (h true) s)
  edges_at_in_order opening x y n c rest h s = emit_in_order (cut_total o) (λ a b. a && b) x y (cut_at n (cuts_after c.comparator) c) rest (h (cuts_after c.comparator)) s
  edges_at_in_order closing x y n c rest h s = emit_in_order (cut_total o) (λ a b. a && b) x y (cut_at n (cuts_after c.comparator) c) rest (h (cuts_after c.comparator)) s

  pub edges_in_order : (p : Bool) (n : ℕ) (list : List (Constraint V)) → IsSorted R list → IsAscending (cut_cmp R) (edges holes p n list)
  edges_in_order p n [] s = tt
  edges_in_order p n (c ∷ list) s =
      edges_at_in_order (kind c) (is_piece_in holes p (c ∷ list)) (is_piece_in holes (opens_next p (kind c)) list) n c (edges holes (opens_next p (kind c)) (n + 1) list)
      (λ b. All-edges (λ d. cut_cmp R (cut_at n b c) d ≡ Less) (opens_next p (kind c)) (n + 1) list (further n b c list s.0))
      (edges_in_order (opens_next p (kind c)) (n + 1) list s.1)

module _ {V : Type 0} {R : V → V → Ordering} (o : IsTotalOrder R) (list : List (Constraint V)) (s : IsSorted R list) where
  -- the spans of a list are in order
  pub spans_in_order : IsInOrder R (spans_of_list list)
  spans_in_order = seen_in_order R (starts_in list) (edges_of list) (spans_of_list list) refl (edges_in_order o (all_holes list) false 1 list s)

  -- the spans of a list hold what it means
  pub spans_mean : (v : V) → in_spans R (spans_of_list list) v ≡ meaning R v list
  spans_mean v =
      sym (has_by_cuts o (starts_in list) (edges_of list) (spans_of_list list) v refl (edges_in_order o (all_holes list) false 1 list s))
      ∙ edges_mean o v (all_holes list) false 1 list s
