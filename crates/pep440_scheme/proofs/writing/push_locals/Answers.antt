use Rattle.pep440_scheme.proofs.Pushed.{ident_pushed}
use Rattle.pep440_scheme.proofs.writing.push_locals.Goals as goal

pub loop-i-preserved : goal.loop-i-preserved
loop-i-preserved c =
    ident_pushed _ _ _ _ c.args.locals.now c.loop-i.i _ c.loop-i-test.true c.index-locals-i.is c.loop-i.invariant c.in_ok-push_sign.ensures.ok c.in_ok-push_ident.ensures.ok
