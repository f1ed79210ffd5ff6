-- Two lines of pieces, joined.
use Rattle.std.proofs.Common.{arith, ℕ, zero, suc, ◌+◌, ◌<◌, ◌≤◌, length, take, drop, set, get_or, ◌++◌, ◌≡◌, Bool, true, false, cond, nat_lt, List, [], ◌∷◌, refl, sym, ap, ◌∙◌}
use Rattle.std.specs.declared.cmp.Ordering.{Ordering}
use Rattle.std.specs.declared.cmp.Ordering.TheVariants.{Less, Equal, Greater}
use Rattle.std.specs.Ordering.{ordering_reverse, match_ordering}
use Rattle.std.specs.Cmp.{IsTotalOrder}
use Rattle.std.specs.List.{AllByRecursion}
use Rattle.vx_spec.specs.Ascending.{IsAscending}
use Rattle.vx_line.specs.declared.line_piece.LinePiece.{LinePiece}
use Rattle.vx_line.specs.Line.{IsPlace, join_by}
use Rattle.vx_line.specs.Least.{least_of, unite_behind, unite}
use Rattle.vx_line.specs.Pieces.{cuts_below, pieces_at}
use Rattle.vx_line.specs.Steps.Joins.{above, join_right, join_behind, join_pieces}
use Rattle.vx_line.proofs.Above.{above_lower}
use Rattle.vx_line.proofs.Merging.{first_turns, second_turns, both_turn}

pub length-cuts_below : {C : Type 0} → (pieces : List (LinePiece C)) → length (cuts_below pieces) ≡ length pieces
length-cuts_below [] = refl
length-cuts_below (piece ∷ pieces) = ap suc (length-cuts_below pieces)

-- ---- a line joined with one that has no cuts
pub right_neutral : {C : Type 0} → (both inside : Bool) (ys : List (LinePiece C)) → inside ≡ both → join_right both inside ys ≡ ys
right_neutral both inside [] e = refl
right_neutral true true (y ∷ ys) e = ap (λ l. y ∷ l) (right_neutral true true ys e)
right_neutral false false (y ∷ ys) e = ap (λ l. y ∷ l) (right_neutral false false ys e)
right_neutral true false (y ∷ ys) e = absurd (cc)
right_neutral false true (y ∷ ys) e = absurd (cc)

absorbed : (both inside b : Bool) → (inside ≡ both → ⊥) → join_by both inside b ≡ inside
absorbed true true b n = absurd (n refl)
absorbed true false b n = refl
absorbed false true b n = refl
absorbed false false b n = absurd (n refl)

module _ {C : Type 0} (both inside : Bool) (n : inside ≡ both → ⊥) where
  abbrev so_far : ℕ → List (LinePiece C) → List (LinePiece C)
  so_far i line = join_right both inside (take i line) ++ drop i line

  next_is : (i : ℕ) (line : List (LinePiece C)) (x : LinePiece C) → i < length line → set (so_far i line) i (above (get_or (so_far i line) i x).cut inside) ≡ so_far (suc i) line
  next_is i [] x l = absurd (omega arith)
  next_is zero (y ∷ ys) x l = ap (λ b. above y.cut b ∷ ys) (sym (absorbed both inside y.inside n))
  next_is (suc i) (y ∷ ys) x l = ap (λ l. above y.cut (join_by both inside y.inside) ∷ l) (next_is i ys x (omega arith))

  -- one more piece is written
  pub right_next : (i : ℕ) (line items : List (LinePiece C)) (x : LinePiece C) → items ≡ so_far i line → i < length items → length items ≡ length line → set items i (above (get_or items i x).cut inside) ≡ so_far (suc i) line
  right_next i line items x e l same = ap (λ l. set l i (above (get_or l i x).cut inside)) e ∙ next_is i line x (omega arith)

-- ---- the cuts of joined lines are those of both, united
module _ {C : Type 0} (mark : C → ℕ) (R : C → C → Ordering) (both : Bool) where
  cuts_right : (p : Bool) (ys : List (LinePiece C)) → cuts_below (join_right both p ys) ≡ cuts_below ys
  cuts_right p [] = refl
  cuts_right p (y ∷ ys) = ap (λ l. y.cut ∷ l) (cuts_right p ys)

  cuts_by : (r : Ordering) (a b c : List (LinePiece C)) (a' b' c' : List C) → cuts_below a ≡ a' → cuts_below b ≡ b' → cuts_below c ≡ c' → cuts_below (match_ordering r a b c) ≡ match_ordering r a' b' c'
  cuts_by Less a b c a' b' c' e f g = e
  cuts_by Equal a b c a' b' c' e f g = f
  cuts_by Greater a b c a' b' c' e f g = g

  module _ (p : Bool) (x : LinePiece C) (next : Bool → List (LinePiece C) → List (LinePiece C)) (rest : List C → List C) (same : (q : Bool) (ys : List (LinePiece C)) → cuts_below (next q ys) ≡ rest (cuts_below ys)) where
    cuts_behind : (q : Bool) (ys : List (LinePiece C)) → cuts_below (join_behind mark R both p x next q ys) ≡ unite_behind mark R x.cut rest (cuts_below ys)
    cuts_behind q [] = ap (λ l. x.cut ∷ l) (same q [])
    cuts_behind q (y ∷ ys) =
        cuts_by (R x.cut y.cut) _ _ _ _ _ _
        (ap (λ l. x.cut ∷ l) (same q (y ∷ ys)))
        (ap (λ l. least_of mark x.cut y.cut ∷ l) (same y.inside ys))
        (ap (λ l. y.cut ∷ l) (cuts_behind y.inside ys))

  pub cuts_joined : (p : Bool) (xs : List (LinePiece C)) (q : Bool) (ys : List (LinePiece C)) → cuts_below (join_pieces mark R both p xs q ys) ≡ unite mark R (cuts_below xs) (cuts_below ys)
  cuts_joined p [] q ys = cuts_right p ys
  cuts_joined p (x ∷ xs) q ys = cuts_behind p x (join_pieces mark R both x.inside xs) (unite mark R (cuts_below xs)) (λ q' ys'. cuts_joined x.inside xs q' ys') q ys

  -- ---- and they are no more
  few_by : (r : Ordering) (a b c : List C) (n : ℕ) → length a ≤ n → length b ≤ n → length c ≤ n → length (match_ordering r a b c) ≤ n
  few_by Less a b c n e f g = e
  few_by Equal a b c n e f g = f
  few_by Greater a b c n e f g = g

  few_behind : (x : C) (xs : List C) (next : List C → List C) → ((ys : List C) → length (next ys) ≤ length xs + length ys) → (ys : List C) → length (unite_behind mark R x next ys) ≤ length (x ∷ xs) + length ys
  few_behind x xs next few [] = let rest = few [] in omega arith
  few_behind x xs next few (y ∷ ys) =
      let left = few (y ∷ ys) in
      let level = few ys in
      let right = few_behind x xs next few ys in
      few_by (R x y) _ _ _ _ (omega arith) (omega arith) (omega arith)

  few_united : (xs ys : List C) → length (unite mark R xs ys) ≤ length xs + length ys
  few_united [] ys = omega arith
  few_united (x ∷ xs) ys = few_behind x xs (unite mark R xs) (λ ys'. few_united xs ys') ys

  pub few_joined : (p : Bool) (xs : List (LinePiece C)) (q : Bool) (ys : List (LinePiece C)) → length (join_pieces mark R both p xs q ys) ≤ length xs + length ys
  few_joined p xs q ys =
      let united = few_united (cuts_below xs) (cuts_below ys) in
      let cuts = ap length (cuts_joined p xs q ys) in
      omega (arith, length-cuts_below (join_pieces mark R both p xs q ys), length-cuts_below xs, length-cuts_below ys)

-- ---- what joined lines say of a place
module _ {C : Type 0} {R : C → C → Ordering} {below : C → Bool} (place : IsPlace R below) where
  pub no_pieces_below : (c : C) (starts : Bool) (pieces : List (LinePiece C)) → AllByRecursion (λ d. R c d ≡ Less) (cuts_below pieces) → below c ≡ false → pieces_at below starts pieces ≡ starts
  no_pieces_below c starts [] h n = refl
  no_pieces_below c starts (piece ∷ pieces) h n = rw (place.upward c piece.cut h.0 n) refl

module _ {C : Type 0} (mark : C → ℕ) {R : C → C → Ordering} (o : IsTotalOrder R) {below : C → Bool} (place : IsPlace R below) (both : Bool) where
  right_means : (p q : Bool) (ys : List (LinePiece C)) → pieces_at below (join_by both p q) (join_right both p ys) ≡ join_by both p (pieces_at below q ys)
  right_means p q [] = refl
  right_means p q (y ∷ ys) =
      ap (λ w. cond (below y.cut) w (join_by both p q)) (right_means p y.inside ys)
      ∙ second_turns (join_by both) p q p (pieces_at below y.inside ys) (below y.cut) (λ n. refl)

  least_alike : (x y : C) (m : Bool) → below x ≡ below y → below (cond m y x) ≡ below x
  least_alike x y true e = sym e
  least_alike x y false e = refl

  module _ (p : Bool) (x : LinePiece C) (xs : List (LinePiece C)) (s : IsAscending R (x.cut ∷ cuts_below xs)) (next : Bool → List (LinePiece C) → List (LinePiece C))
      (means : (q : Bool) (ys : List (LinePiece C)) → IsAscending R (cuts_below ys) → pieces_at below (join_by both x.inside q) (next q ys) ≡ join_by both (pieces_at below x.inside xs) (pieces_at below q ys)) where
    by_order : (q : Bool) (y : LinePiece C) (ys : List (LinePiece C)) → IsAscending R (y.cut ∷ cuts_below ys) → (r : Ordering) → R x.cut y.cut ≡ r
        → pieces_at below (join_by both p y.inside) (join_behind mark R both p x next y.inside ys) ≡ join_by both (pieces_at below p (x ∷ xs)) (pieces_at below y.inside ys)
        → pieces_at below (join_by both p q) (match_ordering r (above x.cut (join_by both x.inside q) ∷ next q (y ∷ ys)) (above (least_of mark x.cut y.cut) (join_by both x.inside y.inside) ∷ next y.inside ys) (above y.cut (join_by both p y.inside) ∷ join_behind mark R both p x next y.inside ys))
        ≡ join_by both (pieces_at below p (x ∷ xs)) (pieces_at below q (y ∷ ys))
    by_order q y ys t Less e i =
        ap (λ w. cond (below x.cut) w (join_by both p q)) (means q (y ∷ ys) t)
        ∙ first_turns (join_by both) p q (pieces_at below x.inside xs) (pieces_at below q (y ∷ ys)) (below x.cut)
        (no_pieces_below place x.cut q (y ∷ ys) (e, above_lower o x.cut y.cut (cuts_below ys) e t.0))
    by_order q y ys t Equal e i =
        let b = place.alike x.cut y.cut e in
        ap (λ w. cond w (pieces_at below (join_by both x.inside y.inside) (next y.inside ys)) (join_by both p q)) (least_alike x.cut y.cut (nat_lt (mark y.cut) (mark x.cut)) b)
        ∙ ap (λ w. cond (below x.cut) w (join_by both p q)) (means y.inside ys t.1)
        ∙ both_turn (join_by both) p q (pieces_at below x.inside xs) (pieces_at below y.inside ys) (below x.cut) (below y.cut) b
    by_order q y ys t Greater e i =
        let l : R y.cut x.cut ≡ Less = o.antisymm y.cut x.cut ∙ ap ordering_reverse e in
        ap (λ w. cond (below y.cut) w (join_by both p q)) i
        ∙ second_turns (join_by both) p q (pieces_at below p (x ∷ xs)) (pieces_at below y.inside ys) (below y.cut)
        (no_pieces_below place y.cut p (x ∷ xs) (l, above_lower o y.cut x.cut (cuts_below xs) l s.0))

    behind_means : (q : Bool) (ys : List (LinePiece C)) → IsAscending R (cuts_below ys) → pieces_at below (join_by both p q) (join_behind mark R both p x next q ys) ≡ join_by both (pieces_at below p (x ∷ xs)) (pieces_at below q ys)
    behind_means q [] t =
        ap (λ w. cond (below x.cut) w (join_by both p q)) (means q [] tt)
        ∙ first_turns (join_by both) p q (pieces_at below x.inside xs) q (below x.cut) (λ n. refl)
    behind_means q (y ∷ ys) t = by_order q y ys t (R x.cut y.cut) refl (behind_means y.inside ys t.1)

  pub join_means : (p : Bool) (xs : List (LinePiece C)) (q : Bool) (ys : List (LinePiece C)) → IsAscending R (cuts_below xs) → IsAscending R (cuts_below ys) → pieces_at below (join_by both p q) (join_pieces mark R both p xs q ys) ≡ join_by both (pieces_at below p xs) (pieces_at below q ys)
  join_means p [] q ys s t = right_means p q ys
  join_means p (x ∷ xs) q ys s t = behind_means p x xs s (join_pieces mark R both x.inside xs) (λ q' ys' t'. join_means x.inside xs q' ys' s.1 t') q ys t
