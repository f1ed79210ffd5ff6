use Rattle.npm_scheme.specs.Laws.Texts.{formed}
use Rattle.npm_scheme.specs.Written.{parts}
use Rattle.npm_scheme.proofs.spelling.version_of_parts.Goals as goal

pub version_with-requires-clause-build : goal.version_with-requires-clause-build
version_with-requires-clause-build c = rw c.in_ok-build.ensures (formed (parts c.args.written.now) c.requires).build
