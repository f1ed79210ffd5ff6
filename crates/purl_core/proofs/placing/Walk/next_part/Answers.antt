use Rattle.std.proofs.Common.{◌≡◌, ◌≢◌, ◌∙◌, ap, sym, Some, length}
use Rattle.std.specs.Option.{option_copied}
use Rattle.std.proofs.lemmas.Bool.{eqb-false}
use Rattle.purl_core.specs.Places.{placed_parts}
use Rattle.purl_core.proofs.Splits.{takes_front}
use Rattle.purl_core.proofs.placing.Walk.next_part.Goals as goal

pub returns-then-not-is_empty-clause-part : goal.returns-then-not-is_empty-clause-part
returns-then-not-is_empty-clause-part c =
    let walk = c.parts.self in
    let is : option_copied walk.rest ≡ Some c.in-Some.text.now = ap option_copied c.in-Some.is in
    let some : length c.cut_bytes.result.0.now ≢ 0 = eqb-false (length c.cut_bytes.result.0.now) 0 (sym c.is_empty.ensures ∙ c.if-not-is_empty.true) in
    sym c.parts.invariant.left ∙ ap (placed_parts walk.at walk.mark) is
    ∙ takes_front walk.mark walk.at c.in-Some.text.now c.cut_bytes.result.0.now (option_copied c.cut_bytes.result.1) c.cut_bytes.ensures some
