use Rattle.std.proofs.Common.{map, List, subst, sym}
use Rattle.purl_core.specs.declared.value.Pair.{Pair}
use Rattle.purl_core.specs.Value.{IsAboveLast, pair_view}
use Rattle.purl_core.proofs.Ascending.{ascending_push}
use Rattle.purl_core.proofs.value.Pairs.push.Goals as goal

pub invariant_of-self : goal.invariant_of-self
invariant_of-self c =
    ascending_push c.push.result c.self.inside.list c.push.new.self c.args.pair c.push.ensures.ok c.push.ensures.err c.self.invariant
    (subst (λ (pairs : List Pair). IsAboveLast (map pair_view pairs) c.args.pair.key) (sym c.self.view_is) c.requires)
