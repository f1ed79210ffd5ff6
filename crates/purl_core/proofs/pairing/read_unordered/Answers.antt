use Rattle.std.proofs.Common.{map, subst}
use Rattle.purl_core.specs.Value.{pair_view}
use Rattle.purl_core.specs.Places.{AllPieces, AllText, value_in, values}
use Rattle.purl_core.specs.Steps.Placing.{left, part_view}
use Rattle.purl_core.specs.Steps.Pairing.{PutsPiece, entry_view}
use Rattle.purl_core.proofs.Decoded.{texts_apart}
use Rattle.purl_core.proofs.SoFar.{IsSoFar, at_end, one_more, twice_at}
use Rattle.purl_core.proofs.pairing.read_unordered.Goals as goal

pub put_piece-requires-clause-text : goal.put_piece-requires-clause-text
put_piece-requires-clause-text c =
    (texts_apart (value_in c.in-Some.piece.at c.in-Some.piece.bytes.now) (values (left c.next_part.new.self))
    (subst (λ l. AllText (values l)) c.in-Some.ensures.part c.pieces.invariant.text)).0

pub returns-then-twice : goal.returns-then-twice
returns-then-twice c =
    let all = left c.args.pieces in
    let old = map entry_view c.pieces.found.entries in
    let new = map entry_view c.put_piece.new.found.entries in
    twice_at all (left c.next_part.new.self) (part_view c.in-Some.piece) old new (subst (λ l. IsSoFar all l old) c.in-Some.ensures.part c.pieces.invariant.so_far)
    (subst (PutsPiece old new (part_view c.in-Some.piece)) c.if-twice.true c.in_ok-twice.ensures) (subst AllPieces c.in-Some.ensures.part c.pieces.invariant.good).1

pub pieces-preserved : goal.pieces-preserved
pieces-preserved c =
    let all = left c.args.pieces in
    let old = map entry_view c.pieces.found.entries in
    let new = map entry_view c.put_piece.new.found.entries in
    record {
      within = c.in-Some.ensures.within;
      so_far = one_more all (left c.next_part.new.self) (part_view c.in-Some.piece) old new (subst (λ l. IsSoFar all l old) c.in-Some.ensures.part c.pieces.invariant.so_far)
          (subst (PutsPiece old new (part_view c.in-Some.piece)) c.if-twice.false c.in_ok-twice.ensures);
      good = (subst AllPieces c.in-Some.ensures.part c.pieces.invariant.good).1;
      text = (texts_apart (value_in c.in-Some.piece.at c.in-Some.piece.bytes.now) (values (left c.next_part.new.self))
          (subst (λ l. AllText (values l)) c.in-Some.ensures.part c.pieces.invariant.text)).1;
    }

pub returns : goal.returns
returns c =
    let all = left c.args.pieces in
    let entries = map entry_view c.pieces.found.entries in
    at_end all entries (map pair_view c.in_ok-in_order.field-0) (subst (λ l. IsSoFar all l entries) c.in_default.ensures.part c.pieces.invariant.so_far) c.in_ok-in_order.ensures
