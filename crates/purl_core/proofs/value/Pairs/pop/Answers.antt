use Rattle.purl_core.proofs.Ascending.{ascending_pop}
use Rattle.purl_core.proofs.value.Pairs.pop.Goals as goal

pub invariant_of-self : goal.invariant_of-self
invariant_of-self c = ascending_pop c.pop.result c.self.inside.list c.pop.new.self c.pop.ensures c.self.invariant
