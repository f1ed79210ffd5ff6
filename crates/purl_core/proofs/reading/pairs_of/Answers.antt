use Rattle.std.proofs.Common.{subst, sym}
use Rattle.purl_core.specs.Places.{AllText, values}
use Rattle.purl_core.specs.Steps.Pairing.{IsPaired}
use Rattle.purl_core.proofs.reading.pairs_of.Goals as goal

pub read_pairs-requires-clause-text : goal.read_pairs-requires-clause-text
read_pairs-requires-clause-text c = subst (λ l. AllText (values l)) (sym c.pieces_walk.ensures.parts) c.requires.text

pub returns-in-None : goal.returns-in-None
returns-in-None c = subst (λ l. IsPaired l c.read_pairs.result) c.pieces_walk.ensures.parts c.read_pairs.ensures
