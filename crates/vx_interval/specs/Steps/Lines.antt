-- Lines of pieces, by the cuts that they are made of, and words for lists of what they are made of.
use Rattle.std.specs.Prelude.{suc, ◌≡◌, ◌≤◌, ◌+◌, ◌*◌, ℕ, Bool, true, false, cond, length, Option, Some, None, List, [], ◌∷◌, ◌++◌}
use Rattle.std.specs.List.{list_any, list_all}
use Rattle.std.specs.declared.cmp.Ordering.{Ordering}
use Rattle.vx_scheme.specs.declared.span.Cut.{Cut}
use Rattle.vx_scheme.specs.declared.span.Span.{Span}
use Rattle.vx_scheme.specs.Cuts.{cut_cmp, is_absent}
use Rattle.vx_line.specs.Steps.Joins.{above, join_pieces}
use Rattle.vx_line.specs.declared.line_piece.LinePiece.{LinePiece}
use Rattle.vx_line.specs.Logarithm.{log2_up}
use Rattle.vx_line.specs.Pieces.{cuts_below, pieces_at, changes_of}
use Rattle.vx_interval.specs.declared.bounds.Joined.{Joined}
use Rattle.vx_interval.specs.declared.line.Line.{Line}
use Rattle.vx_interval.specs.Joined.{IsLine, mark_of}
use Rattle.vx_interval.specs.Places.{AtEachPlace}

-- The line of made cuts on which a piece is in where the test says so, and which has no more cuts than were made.
pub record IsLineOf {V : Type 0} (order : V → V → Ordering) (made : List (Cut V)) (test : (Cut V → Bool) → Bool) (line : Line V) : Type 0 where
  pub cuts : IsLine order made (cuts_below line.pieces)
  pub pieces : AtEachPlace order (λ below. pieces_at below line.starts line.pieces ≡ test below)
  pub few : length line.pieces ≤ length made

-- The cuts at which such a line changes.
pub record AreChangesOf {V : Type 0} (order : V → V → Ordering) (made : List (Cut V)) (test : (Cut V → Bool) → Bool) (joined : Joined V) : Type 0 where
  pub line : Line V
  pub is : IsLineOf order made test line
  pub starts : joined.starts_in ≡ line.starts
  pub cuts : joined.cuts ≡ changes_of line.starts line.pieces

-- what a line of n cuts may cost, where lists of such lines were joined so many times, one in the other
abbrev pub line_cost : ℕ → ℕ → ℕ
line_cost depth n = n * (depth * log2_up n + 1)

-- there is an item
abbrev pub has_item : {X : Type 0} → List X → Bool
has_item [] = false
has_item (x ∷ xs) = true

module _ {V X : Type 0} (cuts : X → List (Cut V)) where
  -- the cuts of the parts, from left to right
  abbrev pub all_cuts : List X → List (Cut V)
  all_cuts [] = []
  all_cuts (part ∷ parts) = cuts part ++ all_cuts parts

  -- how many of the parts have a cut
  abbrev pub with_cuts : List X → ℕ
  with_cuts [] = 0
  with_cuts (part ∷ parts) = cond (has_item (cuts part)) (suc (with_cuts parts)) (with_cuts parts)

-- all of the parts hold a place, or one of them does
abbrev pub all_at : {X : Type 0} → Bool → (X → Bool) → List X → Bool
all_at true at parts = list_all at parts
all_at false at parts = list_any at parts

-- the line that lies above a lower cut, or below an upper one, where there is one
abbrev pub ends_of : {V : Type 0} → Option (Cut V) → Bool → List (LinePiece (Cut V))
ends_of None inside = []
ends_of (Some cut) inside = above cut inside ∷ []

-- the pieces of the line of a span: those that lie above its lower cut and below its upper one
abbrev pub span_pieces : {V : Type 0} → (V → V → Ordering) → Span V → List (LinePiece (Cut V))
span_pieces order span = join_pieces mark_of (cut_cmp order) true (is_absent span.lower) (ends_of span.lower true) true (ends_of span.upper false)

-- how two pieces compare: by the cuts below them
abbrev pub piece_cmp : {V : Type 0} → (V → V → Ordering) → LinePiece (Cut V) → LinePiece (Cut V) → Ordering
piece_cmp order x y = cut_cmp order x.cut y.cut
