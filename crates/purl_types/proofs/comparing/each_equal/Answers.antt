use Rattle.std.proofs.Common.{arith}
use Rattle.std.proofs.Common.{◌≡◌}
use Rattle.purl_core.specs.declared.value.Pair.{Pair}
use Rattle.purl_core.specs.Value.{pair_view}
use Rattle.purl_types.proofs.Pairwise.{same_length, told_false}
use Rattle.purl_types.proofs.comparing.each_equal.Goals as goal

pub returns-then-a-b : goal.returns-then-a-b
returns-then-a-b c = told_false (λ p. omega (arith, same_length (λ (x y : Pair). pair_view x ≡ pair_view y) c.args.a.now c.args.b.now p))
