use Rattle.std.proofs.Common.{◌≡◌, true}
use Rattle.purl_core.specs.Value.{is_key}
use Rattle.purl_core.proofs.Pieces.{piece_at}
use Rattle.purl_core.proofs.checking.cut_piece.Goals as goal

pub returns-in_default : goal.returns-in_default
returns-in_default c = λ pair is. let e = piece_at pair is (rw c.in_default.is at c.cut_bytes.ensures) in cc (e.1)

pub returns-else-is_key : goal.returns-else-is_key
returns-else-is_key c = λ pair is.
    let e = piece_at pair is c.cut_bytes.ensures in
    let f : is_key c.cut_bytes.result.0.now ≡ true = rw (← e.0) is.key in
    cc (f, c.is_key.ensures, c.if-is_key.false)
