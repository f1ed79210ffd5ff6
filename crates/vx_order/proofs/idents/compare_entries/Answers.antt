use Rattle.std.proofs.Common.{rules, [], map, refl, arith, ◌∙◌}
use Rattle.std.proofs.lemmas.List.{length-map}
use Rattle.vx_spec.specs.Places.{endless}
use Rattle.vx_order.specs.Idents.{entry, entry_cmp}
use Rattle.vx_order.proofs.PlaceRows.{rows_by_places}
use Rattle.vx_order.proofs.idents.compare_entries.Goals as goal

pub returns : goal.returns
returns c =
    let xs = map (entry c.args.rule) c.args.a.now in
    let ys = map (entry c.args.rule) c.args.b.now in
    c.compare_places.ensures (λ i. entry_cmp (endless [] xs i) (endless [] ys i)) (λ i answer less post. search rules)
    ∙ rows_by_places entry_cmp [] refl c.max.result xs ys (omega (arith, length-map c.args.a.now (entry c.args.rule))) (omega (arith, length-map c.args.b.now (entry c.args.rule)))
