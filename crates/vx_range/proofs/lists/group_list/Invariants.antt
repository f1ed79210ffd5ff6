-- The groups so far, with those of the rest, are the groups of the text.
use Rattle.std.proofs.Common.{◌≡◌, ◌+◌, ◌++◌, length, map}
use Rattle.std.specs.List.{AllByRecursion}
use Rattle.vx_range.specs.Pieces.{all_as_written, IsInPlace}
use Rattle.vx_range.specs.Lists.{pieces_at}
use Rattle.vx_range.proofs.PieceSteps.{groups_from}
use Rattle.vx_range.proofs.lists.group_list.Given as goal

abbrev pub invariant-loop-groups : goal.invariant-loop-groups
invariant-loop-groups l = record {
  found : map all_as_written l.groups ++ groups_from l.inner (pieces_at 44 l.from l.rest) ≡ groups_from l.inner (pieces_at 44 0 l.fn.text);
  place : l.from + length l.rest ≡ length l.fn.text;
  placed : AllByRecursion (AllByRecursion IsInPlace) (map all_as_written l.groups);
}

abbrev pub decreases-loop-groups : goal.decreases-loop-groups
decreases-loop-groups l = length l.rest
