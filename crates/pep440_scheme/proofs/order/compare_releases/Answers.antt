use Rattle.std.proofs.Common.{rules, refl, arith, ◌∙◌}
use Rattle.std.specs.Ordering.{nat_cmp}
use Rattle.vx_spec.specs.Places.{endless}
use Rattle.vx_order.proofs.PlaceRows.{rows_by_places}
use Rattle.pep440_scheme.proofs.OrderLaws.{release_rows}
use Rattle.pep440_scheme.proofs.order.compare_releases.Goals as goal

pub returns : goal.returns
returns c =
    let xs = c.args.a.now in
    let ys = c.args.b.now in
    c.compare_places.ensures (λ i. nat_cmp (endless 0 xs i) (endless 0 ys i)) (λ i answer less post. search rules)
    ∙ rows_by_places nat_cmp 0 refl c.max.result xs ys (omega arith) (omega arith)
    ∙ release_rows xs ys
