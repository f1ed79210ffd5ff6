use Rattle.std.proofs.Common.{arith}
use Rattle.purl_types.specs.Same.{SameText}
use Rattle.purl_types.proofs.Pairwise.{same_length, told_false}
use Rattle.purl_types.proofs.comparing.same_texts.Goals as goal

pub returns-then-a-b : goal.returns-then-a-b
returns-then-a-b c = told_false (λ p. omega (arith, same_length (SameText c.args.folding) c.args.a.now c.args.b.now p))
