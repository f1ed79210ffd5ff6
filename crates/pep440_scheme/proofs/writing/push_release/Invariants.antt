use Rattle.std.proofs.Common.{◌≡◌, ◌++◌, take}
use Rattle.pep440_scheme.specs.Writing.{release_text}
use Rattle.pep440_scheme.proofs.writing.push_release.Given as goal

abbrev pub invariant-loop-i : goal.invariant-loop-i
invariant-loop-i l = l.out ≡ l.fn.out ++ release_text (take l.i l.release)
