use Rattle.std.proofs.Common.{refl}
use Rattle.pep440_scheme.proofs.BumpLaws.{bumped_some}
use Rattle.pep440_scheme.proofs.next.bump.Goals as goal

pub invariant_of-result : goal.invariant_of-result
invariant_of-result c = (
  record {
    release = rw (c.in_ok-release.ensures.ok, c.in_ok-copy_numbers.ensures, c.as_slice.ensures) (bumped_some c.version.inside.release c.version.invariant.0.release);
    local = rw c.new.ensures refl;
  },
  record {
    epoch = c.version.invariant.1.epoch;
    release = c.in_ok-release.ensures.within;
    pre = tt;
    post = tt;
    dev = tt;
    local = rw c.new.ensures tt;
  },
)
