use Rattle.std.proofs.Common.{◌++◌, ◌∷◌, [], ◌∙◌, ap, map, arith}
use Rattle.std.proofs.lemmas.List.{map_push}
use Rattle.vx_spec.proofs.EachLaws.{each_append}
use Rattle.vx_spec.proofs.EndLaws.{cut_length}
use Rattle.vx_range.specs.Pieces.{as_written, IsInPlace}
use Rattle.vx_range.specs.Lists.{Plain}
use Rattle.vx_range.proofs.PieceSteps.{more_pieces, last_piece}
use Rattle.vx_range.proofs.lists.pieces_at.Goals as goal

pub returns-in_default-clause-pieces : goal.returns-in_default-clause-pieces
returns-in_default-clause-pieces c =
    let cut = rw c.in_default.is at c.cut_bytes.ensures in
    let items = c.loop-pieces.pieces in
    rw (c.in_ok-push.ensures.ok, map_push as_written items c.piece_of.result)
    (ap (λ (piece : Plain). map as_written items ++ piece ∷ []) c.piece_of.ensures.piece ∙ last_piece c.args.separator c.loop-pieces.from c.loop-pieces.rest.now _ _ _ cut c.loop-pieces.invariant.found)

pub loop-pieces-preserved : goal.loop-pieces-preserved
loop-pieces-preserved c =
    let cut = rw c.in-Some.is at c.cut_bytes.ensures in
    let size = cut_length c.args.separator c.loop-pieces.rest.now _ _ cut in
    let items = c.loop-pieces.pieces in record {
      found = rw (c.in_ok-push.ensures.ok, map_push as_written items c.piece_of.result, c.piece_of.ensures.piece)
          (more_pieces c.args.separator c.loop-pieces.from c.loop-pieces.rest.now _ _ _ _ cut c.loop-pieces.invariant.found);
      place = omega (arith, size, c.loop-pieces.invariant.place);
      placed = rw (c.in_ok-push.ensures.ok, map_push as_written items c.piece_of.result)
          (each_append IsInPlace (map as_written items) (as_written c.piece_of.result ∷ []) c.loop-pieces.invariant.placed (omega (arith, size, c.piece_of.ensures.within, c.loop-pieces.invariant.place, c.requires), tt));
    }
