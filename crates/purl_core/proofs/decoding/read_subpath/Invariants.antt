use Rattle.std.proofs.Common.{length}
use Rattle.std.proofs.Common.{◌≡◌, ◌++◌}
use Rattle.purl_core.specs.Steps.Reads.{texts_of, without_dots}
use Rattle.purl_core.specs.Places.{IsOtherAt, IsText}
use Rattle.purl_core.specs.Steps.Placing.{IsWithin, left}
use Rattle.purl_core.proofs.Firsts.{Goes}
use Rattle.purl_core.proofs.decoding.read_subpath.Given as goal

abbrev pub invariant-segments : goal.invariant-segments
invariant-segments l = record {
  within : IsWithin l.walk;
  goes : Goes IsText IsOtherAt (left l.fn.subpath) (left l.walk);
  found : l.segments ++ without_dots (texts_of (left l.walk)) ≡ without_dots (texts_of (left l.fn.subpath));
}

abbrev pub decreases-segments : goal.decreases-segments
decreases-segments l = length (left l.walk)
