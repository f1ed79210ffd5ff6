use Rattle.purl_types.specs.Same.{SameText}
use Rattle.purl_types.proofs.Pairwise.{IsLeft}
use Rattle.purl_types.proofs.comparing.same_texts.Given as goal

abbrev pub invariant-texts : goal.invariant-texts
invariant-texts l = IsLeft (SameText l.folding) l.a l.b l.i
