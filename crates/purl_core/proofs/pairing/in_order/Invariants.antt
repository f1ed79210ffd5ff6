use Rattle.std.proofs.Common.{◌≡◌, ◌++◌, map, length}
use Rattle.purl_core.specs.Value.{pair_view}
use Rattle.purl_core.specs.Steps.Pairing.{entry_view}
use Rattle.purl_core.proofs.pairing.in_order.Given as goal

abbrev pub invariant-entries : goal.invariant-entries
invariant-entries l = map pair_view l.pairs ++ map entry_view l.found.entries ≡ map entry_view l.fn.found.entries

abbrev pub decreases-entries : goal.decreases-entries
decreases-entries l = length l.found.entries
