use Rattle.std.proofs.Common.{subst}
use Rattle.gem_scheme.specs.Version.{IsVersion}
use Rattle.gem_scheme.specs.Laws.Texts.{spelled_version}
use Rattle.gem_scheme.proofs.spelling.version_of_text.Goals as goal

pub invariant_of-result : goal.invariant_of-result
invariant_of-result c =
    let spelled = c.requires in
    let is = subst IsVersion spelled.1.values (spelled_version c.args.text.now spelled.0 spelled.1) in
    rw (c.in_ok-segments.ensures.0, c.as_bytes.ensures.value) (is, rw c.as_bytes.ensures.value at c.in_ok-segments.ensures.1)
