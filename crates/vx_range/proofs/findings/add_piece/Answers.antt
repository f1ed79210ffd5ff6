-- By what the piece is read as.
use Rattle.vx_range.specs.Pieces.{as_written}
use Rattle.vx_range.proofs.PieceFound.{construct_found}
use Rattle.vx_range.proofs.findings.add_piece.Goals as goal

pub returns-in_ok-add_construct-in-Construct-clause-ok : goal.returns-in_ok-add_construct-in-Construct-clause-ok
returns-in_ok-add_construct-in-Construct-clause-ok g c =
    let is = rw c.in-Construct.is at c.in_ok-construct.ensures in
    construct_found g.L.Language.ReadsAs g.L.Language.IsPast g.met.L.Language.pieces (g.L.Making.spans c.args.domain) (g.L.Making.outcome c.args.domain)
    (as_written c.args.piece.now) c.in-Construct.construct _ _ _ _ is.0 is.1 c.in_ok-add_construct-in-Construct.ensures
