-- The groups so far, with those of the rest, are the groups of the text.
use Rattle.std.proofs.Common.{◌≡◌, ◌+◌, ◌++◌, List, length, map}
use Rattle.std.specs.List.{AllByRecursion}
use Rattle.vx_range.specs.Pieces.{Written, all_as_written, IsInPlace}
use Rattle.npm_range.specs.declared.cutting.Kind.{Kind}
use Rattle.npm_range.specs.Cutting.{AreAlternatives}
use Rattle.npm_range.proofs.cutting.cut_text.Given as goal

abbrev pub invariant-loop-front : goal.invariant-loop-front
invariant-loop-front l = record {
  place : l.at + length l.rest ≡ length l.fn.text;
  found : (more : List (List (Written Kind))) → AreAlternatives l.at l.rest more → AreAlternatives 0 l.fn.text (map all_as_written l.groups ++ more);
  placed : AllByRecursion (AllByRecursion IsInPlace) (map all_as_written l.groups);
}

abbrev pub decreases-loop-front : goal.decreases-loop-front
decreases-loop-front l = length l.rest
