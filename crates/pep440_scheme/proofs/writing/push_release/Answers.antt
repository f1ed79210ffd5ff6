use Rattle.std.proofs.Common.{rules}
use Rattle.pep440_scheme.proofs.Pushed.{number_pushed}
use Rattle.pep440_scheme.proofs.writing.push_release.Goals as goal

pub loop-i-preserved : goal.loop-i-preserved
loop-i-preserved c =
    number_pushed _ _ _ _ c.args.release.now c.loop-i.i _ c.loop-i-test.true (search rules) c.loop-i.invariant c.in_ok-push_dot.ensures.ok c.in_ok-push_number.ensures.ok
