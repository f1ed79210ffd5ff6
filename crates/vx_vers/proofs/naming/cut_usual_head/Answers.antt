use Rattle.std.proofs.Common.{◌≡◌, ◌++◌, true, subst}
use Rattle.std.specs.Prelude.{codes}
use Rattle.std.specs.List.{list_all}
use Rattle.vx_vers.proofs.HeadLaws.{all_behind, head_from, usual_joined, usual_named}
use Rattle.vx_vers.proofs.naming.cut_usual_head.Goals as goal

pub returns-in-Some-named-clause-head : goal.returns-in-Some-named-clause-head
returns-in-Some-named-clause-head c =
    let front = c.cut.result.0.now in
    let cut = rw c.in-Some-behind.is at c.cut.ensures in
    let joined = usual_joined c.args.text.now c.in-Some.named.now front c.in-Some-behind.rest.now c.in-Some.ensures cut.joined in
    head_from c.args.text.now (codes "vers:" ++ front) c.in-Some-behind.rest.now c.in-Some-named.name joined (usual_named front c.in-Some-named.name c.in-Some-named.ensures.by_name)

pub returns-in-Some-named-clause-behind : goal.returns-in-Some-named-clause-behind
returns-in-Some-named-clause-behind c = λ test all.
    let front = c.cut.result.0.now in
    let cut = rw c.in-Some-behind.is at c.cut.ensures in
    let joined = usual_joined c.args.text.now c.in-Some.named.now front c.in-Some-behind.rest.now c.in-Some.ensures cut.joined in
    all_behind test (codes "vers:" ++ front) c.in-Some-behind.rest.now 47 (subst (λ t. list_all test t ≡ true) joined all)
