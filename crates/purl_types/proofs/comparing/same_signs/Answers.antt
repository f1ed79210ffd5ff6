use Rattle.std.proofs.Common.{arith}
use Rattle.purl_types.specs.Same.{SameSign}
use Rattle.purl_types.proofs.Pairwise.{same_length, told_false}
use Rattle.purl_types.proofs.comparing.same_signs.Goals as goal

pub returns-then-a-b : goal.returns-then-a-b
returns-then-a-b c = told_false (λ p. omega (arith, same_length SameSign c.args.a.now c.args.b.now p))
