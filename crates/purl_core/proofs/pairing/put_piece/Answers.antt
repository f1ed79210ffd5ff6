use Rattle.std.proofs.Common.{List, ℕ}
use Rattle.purl_core.proofs.SoFar.{key_text, value_text}
use Rattle.purl_core.proofs.pairing.put_piece.Goals as goal

pub put_pair-requires-clause-key : goal.put_pair-requires-clause-key
put_pair-requires-clause-key c = key_text c.in-Some.key.now c.in-Some.ensures.key

pub put_pair-requires-clause-text : goal.put_pair-requires-clause-text
put_pair-requires-clause-text c =
    let pair : List ℕ × List ℕ = (c.in-Some.key.now, c.in-Some.value.now) in
    value_text c.args.piece.bytes.now c.args.piece.at pair c.in-Some.ensures c.requires.text
