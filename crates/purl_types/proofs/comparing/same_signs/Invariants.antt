use Rattle.purl_types.specs.Same.{SameSign}
use Rattle.purl_types.proofs.Pairwise.{IsLeft}
use Rattle.purl_types.proofs.comparing.same_signs.Given as goal

abbrev pub invariant-bytes : goal.invariant-bytes
invariant-bytes l = IsLeft SameSign l.a l.b l.i
