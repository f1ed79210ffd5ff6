use Rattle.std.proofs.Common.{rules, map, arith, ◌∙◌}
use Rattle.std.specs.Cmp.{tied_itself}
use Rattle.std.proofs.lemmas.List.{length-map}
use Rattle.vx_spec.specs.Places.{endless}
use Rattle.vx_order.specs.Letters.{letter_cmp, end_letter}
use Rattle.vx_order.proofs.LetterLaws.{letter_total}
use Rattle.vx_order.proofs.PlaceRows.{rows_by_places}
use Rattle.gem_scheme.specs.Order.{number_rank, segment_letter}
use Rattle.gem_scheme.specs.Steps.Rows.{together}
use Rattle.gem_scheme.proofs.order.compare_canonical.Goals as goal

pub returns : goal.returns
returns c =
    let end = end_letter number_rank in
    let xs = map segment_letter (together c.args.a) in
    let ys = map segment_letter (together c.args.b) in
    c.compare_places.ensures (λ i. letter_cmp (endless end xs i) (endless end ys i)) (λ i answer less post. search rules)
    ∙ rows_by_places letter_cmp end (tied_itself letter_total end) c.max.result xs ys (omega (arith, length-map (together c.args.a) segment_letter)) (omega (arith, length-map (together c.args.b) segment_letter))
