use Rattle.std.proofs.Common.{sym, ◌∙◌, arith}
use Rattle.vx_spec.proofs.EndLaws.{cut_length}
use Rattle.vx_spec.specs.Signs.{dot}
use Rattle.vx_order.proofs.PastPartLaws.{cut_here, cut_next, cut_last}
use Rattle.vx_order.proofs.past_parts.first_past_part.Goals as goal

pub returns-then-is_past_numeral : goal.returns-then-is_past_numeral
returns-then-is_past_numeral c =
    sym (cut_here c.parts.from c.parts.rest.now c.cut_bytes.result.0.now _ c.cut_bytes.ensures (sym c.is_past_numeral.ensures ∙ c.if-is_past_numeral.true)) ∙ c.parts.invariant.decides

pub returns-in_default : goal.returns-in_default
returns-in_default c =
    sym (cut_last c.parts.from c.parts.rest.now c.cut_bytes.result.0.now (rw c.in_default.is at c.cut_bytes.ensures) (sym c.is_past_numeral.ensures ∙ c.if-is_past_numeral.false)) ∙ c.parts.invariant.decides

pub overflow_add-from : goal.overflow_add-from
overflow_add-from c = omega (arith, c.parts.invariant.bytes, cut_length dot _ _ _ (rw c.in-Some.is at c.cut_bytes.ensures))

pub parts-smaller : goal.parts-smaller
parts-smaller c = omega (arith, cut_length dot _ _ _ (rw c.in-Some.is at c.cut_bytes.ensures))

pub parts-preserved : goal.parts-preserved
parts-preserved c =
    let cut = rw c.in-Some.is at c.cut_bytes.ensures in
    record {
      decides = sym (cut_next c.parts.from c.parts.rest.now c.cut_bytes.result.0.now _ cut (sym c.is_past_numeral.ensures ∙ c.if-is_past_numeral.false)) ∙ c.parts.invariant.decides;
      bytes = omega (arith, c.parts.invariant.bytes, cut_length dot _ _ _ cut);
    }
