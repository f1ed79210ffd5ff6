-- The letters so far are copied.
use Rattle.std.proofs.Common.{◌≡◌, take}
use Rattle.vx_order.proofs.letter.copy_letters.Given as goal

abbrev pub invariant-loop-letter : goal.invariant-loop-letter
invariant-loop-letter l = l.copied ≡ take l.letter-index l.letter-items
