use Rattle.npm_scheme.specs.Laws.Texts.{formed}
use Rattle.npm_scheme.specs.Written.{parts}
use Rattle.npm_scheme.proofs.spelling.version_with.Goals as goal

-- what the parts stand for has the form
pub invariant_of-result : goal.invariant_of-result
invariant_of-result c =
    rw (c.in_ok-major.ensures.gives.0, c.in_ok-minor.ensures.gives.0, c.in_ok-patch.ensures.gives.0, c.in_ok-pre.ensures.0)
    (record { pre = (formed (parts c.args.written.now) c.requires.form).pre; build = c.requires.build }, (c.in_ok-major.ensures.gives.1, c.in_ok-minor.ensures.gives.1, c.in_ok-patch.ensures.gives.1, c.in_ok-pre.ensures.1))
