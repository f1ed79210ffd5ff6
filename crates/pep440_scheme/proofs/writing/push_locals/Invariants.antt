use Rattle.std.proofs.Common.{◌≡◌, ◌++◌, take}
use Rattle.pep440_scheme.specs.Writing.{locals_text}
use Rattle.pep440_scheme.proofs.writing.push_locals.Given as goal

abbrev pub invariant-loop-i : goal.invariant-loop-i
invariant-loop-i l = l.out ≡ l.fn.out ++ locals_text (take l.i l.locals)
