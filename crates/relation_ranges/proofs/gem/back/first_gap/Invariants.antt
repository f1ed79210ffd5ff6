-- The first gap of the rest is that of all.
use Rattle.std.proofs.Common.{◌≡◌, length}
use Rattle.relation_ranges.specs.Gem.Back.{first_gap}
use Rattle.relation_ranges.proofs.gem.back.first_gap.Given as goal

abbrev pub invariant-gaps : goal.invariant-gaps
invariant-gaps l = first_gap l.rest ≡ first_gap l.spans

abbrev pub decreases-gaps : goal.decreases-gaps
decreases-gaps l = length l.rest
