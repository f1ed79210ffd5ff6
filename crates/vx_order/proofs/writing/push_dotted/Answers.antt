use Rattle.vx_text.proofs.Pushed.{pushed}
use Rattle.vx_spec.specs.Signs.{dot}
use Rattle.vx_order.specs.Identifiers.{identifier_text}
use Rattle.vx_order.proofs.writing.push_dotted.Goals as goal

pub loop-i-preserved : goal.loop-i-preserved
loop-i-preserved c =
    pushed dot identifier_text _ _ _ _ c.args.idents.now c.loop-i.i _ c.loop-i-test.true c.index-idents-i.is c.loop-i.invariant c.in_ok-push_dot.ensures.ok c.in_ok-push_ident.ensures.ok
