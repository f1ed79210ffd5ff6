-- The values of the key stand among what is left.
use Rattle.purl_types.proofs.Values.{IsLeft}
use Rattle.purl_types.proofs.candidates.value_of.Given as goal

abbrev pub invariant-pairs : goal.invariant-pairs
invariant-pairs l = IsLeft l.key l.pairs l.pair-index
