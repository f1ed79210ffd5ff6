use Rattle.vx_range.specs.Pieces.{as_written}
use Rattle.npm_range.proofs.PartialLaws.{partial_utf8, no_construct, construct_read, past_read}
use Rattle.npm_range.proofs.reading.read_piece.Goals as goal

pub returns-in_default-from_utf8 : goal.returns-in_default-from_utf8
returns-in_default-from_utf8 c =
    no_construct (as_written c.args.piece.now) (λ p is. c.in_default-from_utf8.ensures.cases.0 (rw c.in-Some.ensures.is.1 (partial_utf8 _ p is)))

pub returns-in-Construct : goal.returns-in-Construct
returns-in-Construct c =
    construct_read (as_written c.args.piece.now) c.in-Some.operator c.in-Construct.partial c.in-Some.ensures.is.0
    (rw (c.in-Construct.is, c.in-Ok.ensures.cases.0, c.in-Some.ensures.is.1) at c.in_ok-partial.ensures)

pub returns-in-Past : goal.returns-in-Past
returns-in-Past c =
    past_read (as_written c.args.piece.now) c.in-Some.operator c.in-Past.at c.in-Some.ensures.is.0
    (rw (c.in-Past.is, c.in-Ok.ensures.cases.0, c.in-Some.ensures.is.1) at c.in_ok-partial.ensures)

pub returns-in-NoConstruct : goal.returns-in-NoConstruct
returns-in-NoConstruct c =
    no_construct (as_written c.args.piece.now) (rw (c.in-NoConstruct.is, c.in-Ok.ensures.cases.0, c.in-Some.ensures.is.1) at c.in_ok-partial.ensures)
