use Rattle.std.proofs.Common.{ap, sym, subst, map, List, ℕ, string_bytes}
use Rattle.purl_core.specs.Value.{IsAboveLast, pair_view}
use Rattle.purl_core.specs.Steps.Pairing.{entry_view}
use Rattle.purl_core.proofs.Ascending.{above_taken}
use Rattle.purl_core.proofs.pairing.in_order.Goals as goal

pub push-requires : goal.push-requires
push-requires c =
    let pairs = map pair_view c.entries.pairs in
    let next : List ℕ × List ℕ = (string_bytes c.in-Some.key, c.in-Some.value) in
    subst (IsAboveLast pairs) (sym c.from_string-key.ensures) (above_taken pairs next _ _ _ c.entries.invariant (ap (map entry_view) c.in-Some.ensures.removal) c.requires)
