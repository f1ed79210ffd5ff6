-- One piece of a list more, and one group.
use Rattle.std.proofs.Common.{◌≡◌, ◌+◌, ◌++◌, ℕ, Bool, true, false, List, [], ◌∷◌, length, map, refl, sym, ap, ◌∙◌, Option, Some, None, arith, append_assoc}
use Rattle.vx_spec.specs.Marks.{IsCut}
use Rattle.vx_text.proofs.Joins.{split_cut}
use Rattle.vx_range.specs.Lists.{Plain, piece_of, pieces_of, pieces_at, is_some, not_empty, group_of}

-- one piece more, and the pieces behind
pub more_pieces : (c at : ℕ) (text front rest : List ℕ) (found all : List Plain) → IsCut c text front (Some rest) → found ++ pieces_at c at text ≡ all
    → (found ++ piece_of at front ∷ []) ++ pieces_at c (at + (length front + 1)) rest ≡ all
more_pieces c at text front rest found all cut e =
    let place : at + length front + 1 ≡ at + (length front + 1) = omega arith in
    append_assoc found (piece_of at front ∷ []) (pieces_at c (at + (length front + 1)) rest)
    ∙ ap (λ (i : ℕ). found ++ piece_of at front ∷ pieces_at c i rest) (sym place)
    ∙ ap (λ (parts : List (List ℕ)). found ++ pieces_of at parts) (sym (split_cut c text front (Some rest) cut)) ∙ e

pub last_piece : (c at : ℕ) (text front : List ℕ) (found all : List Plain) → IsCut c text front None → found ++ pieces_at c at text ≡ all → found ++ piece_of at front ∷ [] ≡ all
last_piece c at text front found all cut e = ap (λ (parts : List (List ℕ)). found ++ pieces_of at parts) (sym (split_cut c text front None cut)) ∙ e

-- ---- groups

-- the groups of pieces
abbrev pub groups_from : Option ℕ → List Plain → List (List Plain)
groups_from inner pieces = map (group_of inner) (not_empty pieces)

front_by : (inner : Option ℕ) (piece : Plain) (pieces : List Plain) (b : Bool) → is_some piece.bytes ≡ b → groups_from inner (piece ∷ pieces) ≡ groups_from inner (piece ∷ []) ++ groups_from inner pieces
front_by inner piece pieces true e = rw e refl
front_by inner piece pieces false e = rw e refl

-- the group of the first piece, if there is one, then those of the rest
groups_front : (inner : Option ℕ) (piece : Plain) (pieces : List Plain) → groups_from inner (piece ∷ pieces) ≡ groups_from inner (piece ∷ []) ++ groups_from inner pieces
groups_front inner piece pieces = front_by inner piece pieces (is_some piece.bytes) refl

pub more_groups : (inner : Option ℕ) (c at : ℕ) (text front rest : List ℕ) (found all : List (List Plain)) → IsCut c text front (Some rest) → found ++ groups_from inner (pieces_at c at text) ≡ all
    → (found ++ groups_from inner (piece_of at front ∷ [])) ++ groups_from inner (pieces_at c (at + (length front + 1)) rest) ≡ all
more_groups inner c at text front rest found all cut e =
    let place : at + length front + 1 ≡ at + (length front + 1) = omega arith in
    append_assoc found (groups_from inner (piece_of at front ∷ [])) (groups_from inner (pieces_at c (at + (length front + 1)) rest))
    ∙ ap (λ (i : ℕ). found ++ (groups_from inner (piece_of at front ∷ []) ++ groups_from inner (pieces_at c i rest))) (sym place)
    ∙ ap (λ (g : List (List Plain)). found ++ g) (sym (groups_front inner (piece_of at front) (pieces_at c (at + length front + 1) rest)))
    ∙ ap (λ (parts : List (List ℕ)). found ++ groups_from inner (pieces_of at parts)) (sym (split_cut c text front (Some rest) cut)) ∙ e

pub last_groups : (inner : Option ℕ) (c at : ℕ) (text front : List ℕ) (found all : List (List Plain)) → IsCut c text front None → found ++ groups_from inner (pieces_at c at text) ≡ all
    → found ++ groups_from inner (piece_of at front ∷ []) ≡ all
last_groups inner c at text front found all cut e = ap (λ (parts : List (List ℕ)). found ++ groups_from inner (pieces_of at parts)) (sym (split_cut c text front None cut)) ∙ e
