use Rattle.std.proofs.Common.{arith, ◌≡◌, ◌+◌, ◌++◌, ◌∙◌, ap, sym, subst, ℕ, List, [], ◌∷◌, Option, Some, None, length, length-append, append_assoc, append-nil}
use Rattle.std.specs.Option.{option_copied}
use Rattle.vx_spec.specs.Marks.{IsCut}
use Rattle.vx_text.specs.Pieces.{places, piece_of, ArePieces}
use Rattle.vx_text.specs.declared.cutting.Piece.{Piece}
use Rattle.vx_text.proofs.Joins.{parts_behind, split_cut}
use Rattle.vx_text.proofs.PieceLaws.{split_pieces}
use Rattle.vx_text.proofs.cutting.pieces.Invariants.{left}
use Rattle.vx_text.proofs.cutting.pieces.Goals as goal

-- one piece more, and the parts behind
more_found : (c at : ℕ) (text front : List ℕ) (behind : Option (List ℕ)) (found all : List Piece) → IsCut c text front behind → found ++ places at (parts_behind c (Some text)) ≡ all
    → (found ++ piece_of at front ∷ []) ++ places (at + (length front + 1)) (parts_behind c behind) ≡ all
more_found c at text front behind found all cut e =
    let place : at + length front + 1 ≡ at + (length front + 1) = omega arith in
    append_assoc found (piece_of at front ∷ []) (places (at + (length front + 1)) (parts_behind c behind))
    ∙ ap (λ (i : ℕ). found ++ piece_of at front ∷ places i (parts_behind c behind)) (sym place)
    ∙ ap (λ (parts : List (List ℕ)). found ++ places at parts) (sym (split_cut c text front behind cut)) ∙ e

fewer_left : (c at n : ℕ) (text front : List ℕ) (behind : Option (List ℕ)) → IsCut c text front behind → at + (length text + 1) ≡ n
    → at + (length front + 1) + left behind ≡ n
fewer_left c at n text front None cut e = omega (arith, e, ap length cut.joined, length-append front [])
fewer_left c at n text front (Some rest) cut e = omega (arith, e, ap length cut.joined, length-append front (c ∷ rest))

pub parts-preserved : goal.parts-preserved
parts-preserved c =
    let is : option_copied c.parts.rest ≡ Some c.in-Some.more.now = ap option_copied c.in-Some.is in
    let all = places 0 (parts_behind c.args.separator (Some c.args.text.now)) in
    let behind = option_copied c.cut.result.1 in
    let cut = subst (λ mark. IsCut mark c.in-Some.more.now c.cut.result.0.now behind) c.from.ensures c.cut.ensures in
    let pushed : c.push.new.self ≡ c.parts.found ++ piece_of c.parts.at c.cut.result.0.now ∷ [] =
    c.in_ok-push.ensures.ok ∙ ap (λ piece. c.parts.found ++ piece ∷ []) (c.piece_in.ensures ∙ ap (piece_of c.parts.at) c.as_bytes.ensures.value) in
    record {
      found = ap (λ (found : List Piece). found ++ places (c.parts.at + (length c.cut.result.0.now + 1)) (parts_behind c.args.separator behind)) pushed
          ∙ more_found c.args.separator c.parts.at c.in-Some.more.now c.cut.result.0.now behind c.parts.found all cut
          (subst (λ (rest : Option (List ℕ)). c.parts.found ++ places c.parts.at (parts_behind c.args.separator rest) ≡ all) is c.parts.invariant.found);
      bytes = fewer_left c.args.separator c.parts.at (length c.args.text.now + 1) c.in-Some.more.now c.cut.result.0.now behind cut
          (subst (λ (rest : Option (List ℕ)). c.parts.at + left rest ≡ length c.args.text.now + 1) is c.parts.invariant.bytes);
    }

pub returns-clause-put_back : goal.returns-clause-put_back
returns-clause-put_back c =
    let none : option_copied c.parts.rest ≡ None = ap option_copied c.in_default.is in
    let all = places 0 (parts_behind c.args.separator (Some c.args.text.now)) in
    let is : c.parts.found ≡ all =
    sym (append-nil c.parts.found)
    ∙ subst (λ (rest : Option (List ℕ)). c.parts.found ++ places c.parts.at (parts_behind c.args.separator rest) ≡ all) none c.parts.invariant.found in
    subst (ArePieces c.args.separator c.args.text.now) (sym is) (split_pieces c.args.separator c.args.text.now)
