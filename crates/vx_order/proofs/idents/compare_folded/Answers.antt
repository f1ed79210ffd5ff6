use Rattle.std.proofs.Common.{rules, suc, map, refl, arith, ◌∙◌}
use Rattle.std.specs.Char.{to_ascii_lowercase}
use Rattle.std.specs.Ordering.{nat_cmp}
use Rattle.std.proofs.lemmas.List.{length-map}
use Rattle.vx_spec.specs.Places.{endless}
use Rattle.vx_text.specs.Folding.{lowered}
use Rattle.vx_order.proofs.PlaceRows.{raised, rows_by_places}
use Rattle.vx_order.proofs.idents.compare_folded.Goals as goal

pub returns : goal.returns
returns c =
    let a = lowered c.args.a.now in
    let b = lowered c.args.b.now in
    c.compare_places.ensures (λ i. nat_cmp (endless 0 (map suc a) i) (endless 0 (map suc b) i)) (λ i answer less post. search rules)
    ∙ rows_by_places nat_cmp 0 refl c.max.result (map suc a) (map suc b)
    (omega (arith, length-map a suc, length-map c.args.a.now to_ascii_lowercase)) (omega (arith, length-map b suc, length-map c.args.b.now to_ascii_lowercase))
    ∙ raised a b
