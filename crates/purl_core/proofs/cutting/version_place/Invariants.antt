use Rattle.std.proofs.Common.{◌≡◌, ◌<◌, ◌≤◌, ◌-◌, ℕ, length, slice_index}
use Rattle.purl_core.proofs.cutting.version_place.Given as goal

abbrev pub invariant-places : goal.invariant-places
invariant-places l = (i : ℕ) → l.at ≤ i → i < length l.text → slice_index l.text i ≡ 64 → 0 < i → slice_index l.text (i - 1) ≡ 47
