use Rattle.rpm_scheme.proofs.ReleaseLaws.{front_spells}
use Rattle.rpm_scheme.proofs.version.without_release.Goals as goal

pub invariant_of-result : goal.invariant_of-result
invariant_of-result c =
    let v = c.version.invariant in
    rw c.front_of-text.ensures (front_spells _ v.0, (v.1.0, v.1.1, tt))
