-- Joining two lines of pieces, as items C under an order R.
use Rattle.std.specs.Prelude.{ℕ, Bool, List, [], ◌∷◌}
use Rattle.std.specs.Ordering.{match_ordering}
use Rattle.std.specs.declared.cmp.Ordering.{Ordering}
use Rattle.vx_line.specs.declared.line_piece.LinePiece.{LinePiece}
use Rattle.vx_line.specs.Line.{join_by}
use Rattle.vx_line.specs.Least.{least_of}

-- the piece above a cut
abbrev pub above : {C : Type 0} → C → Bool → LinePiece C
above c inside = record { cut = c; inside = inside }

-- the first list has ended; p says whether its last piece is in
abbrev pub join_right : {C : Type 0} → Bool → Bool → List (LinePiece C) → List (LinePiece C)
join_right both p [] = []
join_right both p (y ∷ ys) = above y.cut (join_by both p y.inside) ∷ join_right both p ys

module _ {C : Type 0} (mark : C → ℕ) (R : C → C → Ordering) (both : Bool) where
  -- a piece of the second line goes first while its cut is the lower one
  abbrev pub join_behind : Bool → LinePiece C → (Bool → List (LinePiece C) → List (LinePiece C)) → Bool → List (LinePiece C) → List (LinePiece C)
  join_behind p x next q [] = above x.cut (join_by both x.inside q) ∷ next q []
  join_behind p x next q (y ∷ ys) =
      match_ordering (R x.cut y.cut)
      (above x.cut (join_by both x.inside q) ∷ next q (y ∷ ys))
      (above (least_of mark x.cut y.cut) (join_by both x.inside y.inside) ∷ next y.inside ys)
      (above y.cut (join_by both p y.inside) ∷ join_behind p x next y.inside ys)

  -- Every cut of the two lines, and of two order-equal ones the one with the lesser mark. The piece above it is in
  -- where it is in both lines, or in one of them. p and q say what lies below the first cuts.
  abbrev pub join_pieces : Bool → List (LinePiece C) → Bool → List (LinePiece C) → List (LinePiece C)
  join_pieces p [] q ys = join_right both p ys
  join_pieces p (x ∷ xs) q ys = join_behind p x (join_pieces x.inside xs) q ys
