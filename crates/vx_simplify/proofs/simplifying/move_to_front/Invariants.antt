use Rattle.std.proofs.Common.{◌≡◌, ◌≤◌, ◌++◌, drop, take, false}
use Rattle.vx_vers.specs.Meaning.{kind, closes_first}
use Rattle.vx_simplify.proofs.Dropping.{kept}
use Rattle.vx_simplify.proofs.simplifying.move_to_front.Given as goal

-- what stays so far stands in front, and what is left is as it was
abbrev pub invariant-loop-i : goal.invariant-loop-i
invariant-loop-i g l = record {
  whole : take l.count l.items ++ kept kind l.opens false (drop l.i l.items) ≡ kept kind false false l.fn.items;
  closes : l.closes ≡ closes_first kind (drop l.i l.items) false;
  within : l.count ≤ l.i;
}
