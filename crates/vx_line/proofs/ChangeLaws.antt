-- The cuts at which the pieces of a line change say what the pieces say.
use Rattle.std.proofs.Common.{◌≡◌, Bool, cond, List, [], ◌∷◌, refl, ap, ◌∙◌}
use Rattle.std.specs.declared.cmp.Ordering.{Ordering}
use Rattle.std.specs.declared.cmp.Ordering.TheVariants.{Less}
use Rattle.std.specs.Cmp.{IsTotalOrder}
use Rattle.std.specs.List.{AllByRecursion}
use Rattle.vx_spec.specs.Ascending.{IsAscending}
use Rattle.vx_line.specs.declared.line_piece.LinePiece.{LinePiece}
use Rattle.vx_line.specs.Line.{IsPlace, is_in}
use Rattle.vx_line.specs.Pieces.{cuts_below, pieces_at, changes_of}
use Rattle.vx_line.proofs.InOrder.{All-emit, emit_in_order}
use Rattle.vx_line.proofs.Merging.{emitted}
use Rattle.vx_line.proofs.JoinLaws.{no_pieces_below}

pub All-changes : {C : Type 0} → (P : C → Type 0) (starts : Bool) (pieces : List (LinePiece C)) → AllByRecursion P (cuts_below pieces) → AllByRecursion P (changes_of starts pieces)
All-changes P starts [] h = tt
All-changes P starts (piece ∷ pieces) h = All-emit P starts piece.inside piece.cut (changes_of piece.inside pieces) h.0 (All-changes P piece.inside pieces h.1)

module _ {C : Type 0} {R : C → C → Ordering} (o : IsTotalOrder R) where
  pub changes_in_order : (starts : Bool) (pieces : List (LinePiece C)) → IsAscending R (cuts_below pieces) → IsAscending R (changes_of starts pieces)
  changes_in_order starts [] s = tt
  changes_in_order starts (piece ∷ pieces) s =
      emit_in_order o (λ p q. q) starts piece.inside piece.cut (changes_of piece.inside pieces)
      (All-changes (λ d. R piece.cut d ≡ Less) piece.inside pieces s.0) (changes_in_order piece.inside pieces s.1)

  pub changes_mean : {below : C → Bool} (place : IsPlace R below) (starts : Bool) (pieces : List (LinePiece C)) → IsAscending R (cuts_below pieces) → is_in below starts (changes_of starts pieces) ≡ pieces_at below starts pieces
  changes_mean place starts [] s = refl
  changes_mean {below} place starts (piece ∷ pieces) s =
      let said = changes_mean place piece.inside pieces s.1 in
      emitted o place starts piece.inside piece.cut (changes_of piece.inside pieces) (λ n. said ∙ no_pieces_below place piece.cut piece.inside pieces s.0 n)
      ∙ ap (λ w. cond (below piece.cut) w starts) said
