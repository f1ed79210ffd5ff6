-- What is written, with the gaps of the rest, is what all write; and the first refusal of the rest is that of all.
use Rattle.std.proofs.Common.{◌≡◌, ◌++◌, length}
use Rattle.pep440_range.specs.Back.{all_gaps, gaps_fault}
use Rattle.pep440_range.specs.Steps.BackTexts.{listed}
use Rattle.pep440_range.proofs.back.push_gaps.Given as goal

abbrev pub invariant-gaps : goal.invariant-gaps
invariant-gaps l =
    (l.out ++ listed l.some (all_gaps l.domain l.rest) ≡ l.fn.out ++ listed l.fn.some (all_gaps l.domain l.spans))
    × (gaps_fault l.domain l.rest ≡ gaps_fault l.domain l.spans)

abbrev pub decreases-gaps : goal.decreases-gaps
decreases-gaps l = length l.rest
