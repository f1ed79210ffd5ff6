-- What is written, with the holes of the rest, is what all write.
use Rattle.std.proofs.Common.{◌≡◌, ◌++◌, length}
use Rattle.gem_scheme.specs.Writing.{normal}
use Rattle.relation_ranges.specs.Gem.Operators.{signs_of}
use Rattle.relation_ranges.specs.Gem.Back.{hole_terms}
use Rattle.relation_ranges.specs.Steps.Terms.{appended}
use Rattle.relation_ranges.proofs.gem.back.push_holes.Given as goal

abbrev pub invariant-gaps : goal.invariant-gaps
invariant-gaps l = l.out ++ appended signs_of normal l.some (hole_terms l.rest) ≡ l.fn.out ++ appended signs_of normal l.fn.some (hole_terms l.spans)

abbrev pub decreases-gaps : goal.decreases-gaps
decreases-gaps l = length l.rest
