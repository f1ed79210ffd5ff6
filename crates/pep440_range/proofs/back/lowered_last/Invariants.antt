use Rattle.std.proofs.Common.{◌≡◌, take}
use Rattle.pep440_range.proofs.back.lowered_last.Given as goal

abbrev pub invariant-loop-number : goal.invariant-loop-number
invariant-loop-number l = l.lowered ≡ take l.number-index l.numbers
