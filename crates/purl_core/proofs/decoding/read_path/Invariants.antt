use Rattle.std.proofs.Common.{length}
use Rattle.std.proofs.Common.{◌≡◌, ◌++◌, ◌∷◌}
use Rattle.purl_core.specs.Steps.Placing.{part_view}
use Rattle.purl_core.specs.Steps.Reads.{texts_of}
use Rattle.purl_core.specs.Places.{IsOtherAt, IsText}
use Rattle.purl_core.specs.Steps.Placing.{IsWithin, left}
use Rattle.purl_core.proofs.Firsts.{Goes}
use Rattle.purl_core.proofs.decoding.read_path.Given as goal

abbrev pub invariant-segments : goal.invariant-segments
invariant-segments l = record {
  within : IsWithin l.walk;
  goes : Goes IsText IsOtherAt (left l.fn.path) (part_view l.part ∷ left l.walk);
  found : l.namespace ++ texts_of (part_view l.part ∷ left l.walk) ≡ texts_of (left l.fn.path);
}

abbrev pub decreases-segments : goal.decreases-segments
decreases-segments l = length (left l.walk)
