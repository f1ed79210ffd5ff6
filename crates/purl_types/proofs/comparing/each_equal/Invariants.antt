use Rattle.std.proofs.Common.{◌≡◌}
use Rattle.purl_core.specs.declared.value.Pair.{Pair}
use Rattle.purl_core.specs.Value.{pair_view}
use Rattle.purl_types.proofs.Pairwise.{IsLeft}
use Rattle.purl_types.proofs.comparing.each_equal.Given as goal

abbrev pub invariant-pairs : goal.invariant-pairs
invariant-pairs l = IsLeft (λ (x y : Pair). pair_view x ≡ pair_view y) l.a l.b l.i
