use Rattle.std.proofs.Common.{map, ap, subst, refl}
use Rattle.purl_core.specs.Value.{pair_view}
use Rattle.purl_core.specs.Places.{IsOtherAt, IsText, value_in, values}
use Rattle.purl_core.specs.Steps.Placing.{left, part_view}
use Rattle.purl_core.proofs.Firsts.{Goes, goes_past, goes_through}
use Rattle.purl_core.proofs.SoFar.{IsSoFar, at_end, one_more}
use Rattle.purl_core.proofs.pairing.read_ascending.Goals as goal

pub pieces-preserved : goal.pieces-preserved
pieces-preserved c =
    let all = left c.args.pieces in
    let piece = part_view c.in-Some.piece in
    let old = map pair_view c.pieces.pairs in
    let new = map pair_view c.push_piece.new.pairs in
    let pushed = c.in_ok-pushed.ensures c.if-not-pushed.false in
    record {
      within = c.in-Some.ensures.within;
      so_far = one_more all (left c.next_part.new.self) piece old new (subst (λ l. IsSoFar all l old) c.in-Some.ensures.part c.pieces.invariant.so_far) pushed.1;
      text = goes_past IsText IsOtherAt (values all) (value_in piece.0 piece.1) (values (left c.next_part.new.self)) pushed.0
          (subst (λ l. Goes IsText IsOtherAt (values all) (values l)) c.in-Some.ensures.part c.pieces.invariant.text);
    }

pub returns : goal.returns
returns c =
    let all = left c.args.pieces in
    let entries = map pair_view c.pieces.pairs in (
      goes_through IsText IsOtherAt (values all) (values (left c.pieces.walk)) (ap values c.in_default.ensures.part) c.pieces.invariant.text,
      at_end all entries entries (subst (λ l. IsSoFar all l entries) c.in_default.ensures.part c.pieces.invariant.so_far) refl,
    )
