use Rattle.std.proofs.Common.{◌≡◌, arith, rules}
use Rattle.std.proofs.lemmas.Grind.{common_steps}
use Rattle.vx_vers.specs.Meaning.{kind}
use Rattle.vx_simplify.specs.Simplified.{simplified}
use Rattle.vx_simplify.proofs.CleanLaws.{simplified_is_valid}
use Rattle.vx_simplify.proofs.Dropping.{simplified_once, simplified_is_sub_list}
use Rattle.vx_simplify.proofs.KeptLaws.{simplified_means, simplified_is_sorted}
use Rattle.vx_simplify.proofs.simplifying.into_simple.Goals as goal

pub from_sorted-requires : goal.from_sorted-requires
from_sorted-requires g c =
    let is : c.from_vec.result ≡ simplified kind c.args.list = first_of (search rules, grind (arith, common_steps), cc) in
    rw is (simplified_is_sorted g.S.Scheme.order c.args.list c.into_list.ensures.sorted)

pub returns-clause-ok : goal.returns-clause-ok
returns-clause-ok g c = first_of (search rules, grind (arith, common_steps), cc)

pub returns-clause-sub_list : goal.returns-clause-sub_list
returns-clause-sub_list g c = rw (returns-clause-ok g c) (simplified_is_sub_list kind c.args.list)

pub returns-clause-valid : goal.returns-clause-valid
returns-clause-valid g c = rw (returns-clause-ok g c) (simplified_is_valid kind c.args.list)

pub returns-clause-members : goal.returns-clause-members
returns-clause-members g c v = rw (returns-clause-ok g c) (simplified_means g.met.S.Scheme.total v c.args.list c.into_list.ensures.sorted)

pub returns-clause-once : goal.returns-clause-once
returns-clause-once g c = rw (returns-clause-ok g c) (simplified_once kind c.args.list)
