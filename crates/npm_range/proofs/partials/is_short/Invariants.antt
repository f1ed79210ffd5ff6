use Rattle.std.proofs.Common.{◌≡◌, ◌+◌, ℕ}
use Rattle.npm_range.specs.Reading.{is_short}
use Rattle.npm_range.proofs.NumberLaws.{are_at_most}
use Rattle.npm_range.proofs.partials.is_short.Given as goal

-- the text is one to three numbers where what is left is at most the numbers that are
abbrev pub invariant-loop-i : goal.invariant-loop-i
invariant-loop-i l = (n : ℕ) → n + l.i ≡ 3 → is_short l.fn.text ≡ are_at_most n l.rest
