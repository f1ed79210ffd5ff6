use Rattle.std.proofs.Common.{sym}
use Rattle.purl_core.proofs.Splits.{value_cut, value_uncut}
use Rattle.purl_core.proofs.checking.value_of.Goals as goal

pub returns-in-Some-clause-part : goal.returns-in-Some-clause-part
returns-in-Some-clause-part c =
    sym (value_cut c.args.piece.at c.args.piece.bytes.now c.cut_bytes.result.0.now c.in-Some.value.now (rw c.in-Some.is at c.cut_bytes.ensures))

pub returns-in-None-clause-part : goal.returns-in-None-clause-part
returns-in-None-clause-part c = sym (value_uncut c.args.piece.at c.args.piece.bytes.now c.cut_bytes.result.0.now (rw c.in-None.is at c.cut_bytes.ensures))
