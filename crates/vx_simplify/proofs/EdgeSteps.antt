-- The cuts of a list, written one constraint after another.
use Rattle.std.proofs.Common.{◌≡◌, ◌≢◌, ℕ, ◌+◌, Bool, true, false, ◌&&◌, ◌||◌, List, [], ◌∷◌, ◌++◌, refl, ap, ◌∙◌}
use Rattle.std.proofs.lemmas.Bool.{or_parts}
use Rattle.vx_scheme.specs.declared.span.Cut.{Cut}
use Rattle.vx_scheme.specs.Cuts.{spans_of}
use Rattle.vx_line.specs.Line.{emit}
use Rattle.vx_vers.specs.declared.constraints.Constraint.{Constraint}
use Rattle.vx_vers.specs.Meaning.{Kind, point, hole, opening, closing, kind, opens_next, closes_first, is_hole, closes_here}
use Rattle.vx_simplify.specs.Edges.{cuts_after, cut_at, is_piece_in, edges_at, edges, all_holes, starts_in, edges_of, spans_of_list}

pub emit-append : {C : Type 0} → (x y : Bool) (c : C) (first rest : List C) → emit x y c (first ++ rest) ≡ emit x y c first ++ rest
emit-append true true c first rest = refl
emit-append false false c first rest = refl
emit-append true false c first rest = refl
emit-append false true c first rest = refl

module _ {V : Type 0} where
  pub edges_at-append : (k : Kind) (x y : Bool) (n : ℕ) (c : Constraint V) (rest : List (Cut V)) → edges_at k x y n c rest ≡ edges_at k x y n c [] ++ rest
  edges_at-append point x y n c rest = ap (emit x true (cut_at n false c)) (emit-append true y (cut_at n true c) [] rest) ∙ emit-append x true (cut_at n false c) (emit true y (cut_at n true c) []) rest
  edges_at-append hole x y n c rest = ap (emit x false (cut_at n false c)) (emit-append false y (cut_at n true c) [] rest) ∙ emit-append x false (cut_at n false c) (emit false y (cut_at n true c) []) rest
  edges_at-append opening x y n c rest = emit-append x y (cut_at n (cuts_after c.comparator) c) [] rest
  edges_at-append closing x y n c rest = emit-append x y (cut_at n (cuts_after c.comparator) c) [] rest

  -- where the piece below the list is out, and the list has more than `!=`, there is a cut
  some_step : (n : ℕ) (c : Constraint V) (list : List (Constraint V)) (k : Kind) → kind c ≡ k → (all_holes list ≡ false → closes_first kind list false ≡ false → edges false false (n + 1) list ≢ [])
      → (is_hole k && all_holes list) ≡ false → closes_here k (closes_first kind list false) ≡ false
      → edges_at k ((false || closes_here k (closes_first kind list false)) || false) (is_piece_in false (opens_next false k) list) n c (edges false (opens_next false k) (n + 1) list) ≢ []
  some_step n c list point e i h f = rw f (λ q. cc)
  some_step n c list hole e i h f = rw f (i h f)
  some_step n c list opening e i h f = λ q. cc
  some_step n c list closing e i h f = cc

  pub some_edge : (n : ℕ) (list : List (Constraint V)) → all_holes list ≡ false → closes_first kind list false ≡ false → edges false false n list ≢ []
  some_edge n [] h f = cc
  some_edge n (c ∷ list) h f = some_step n c list (kind c) refl (some_edge (n + 1) list) h f

  no_span : (starts : Bool) (cuts : List (Cut V)) → (starts ≡ false → cuts ≢ []) → spans_of starts cuts ≢ []
  no_span false [] h = λ q. h refl refl
  no_span false (c ∷ []) h = λ q. cc
  no_span false (c ∷ d ∷ cuts) h = λ q. cc
  no_span true [] h = λ q. cc
  no_span true (c ∷ cuts) h = λ q. cc

  -- a list has at least one span
  pub some_span : (list : List (Constraint V)) → spans_of_list list ≢ []
  some_span list = no_span (starts_in list) (edges_of list) (λ s.
      let parts = or_parts (closes_first kind list false) (all_holes list) s in
      rw parts.1 (some_edge 1 list parts.1 parts.0))
