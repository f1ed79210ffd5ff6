use Rattle.semver.specs.Identifiers.{parts_of}
use Rattle.semver.proofs.Grammar.{version_parts-sound}
use Rattle.cargo_range.proofs.spelling.read.Goals as goal

pub invariant_of-result : goal.invariant_of-result
invariant_of-result c = (version_parts-sound c.args.text.now (parts_of c.in-Ok.inner) c.in-Ok.ensures.ok).1
