use Rattle.std.proofs.Common.{sym, arith, ◌∙◌}
use Rattle.vx_order.proofs.PlaceRows.{decided, passed, is_other, is_same}
use Rattle.vx_order.proofs.places.compare_places.Goals as goal

pub returns-then-is_ne : goal.returns-then-is_ne
returns-then-is_ne g c = λ at one.
    decided c.args.count c.loop-i.i at c.compare_at-order.result (omega arith) (one c.loop-i.i c.compare_at-order.result (omega arith) c.compare_at-order.ensures) (is_other c.compare_at-order.result c.if-is_ne.ensures) (c.loop-i.invariant.1 at one)

pub loop-i-preserved : goal.loop-i-preserved
loop-i-preserved g c = (
  c.loop-i.invariant.0,
  λ at one.
      let here = one c.loop-i.i c.compare_at-order.result (omega arith) c.compare_at-order.ensures in
      passed c.args.count c.loop-i.i at (omega arith) (sym here ∙ is_same c.compare_at-order.result c.if-is_ne.ensures) (c.loop-i.invariant.1 at one),
)
