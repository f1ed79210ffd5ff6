use Rattle.npm_scheme.proofs.Apart.{dotted_first, dotted_second}
use Rattle.npm_scheme.proofs.spelling.dotted.Goals as goal

pub returns-in_default : goal.returns-in_default
returns-in_default c = λ a b d is. let e = dotted_first (rw c.in_default.is at c.cut.ensures) a b d is in cc (e.1)

pub returns-in_default-behind : goal.returns-in_default-behind
returns-in_default-behind c = λ a b d is.
    let e = dotted_second (rw c.in-Some.is at c.cut.ensures) (rw c.in_default-behind.is at c.cut-2.ensures) a b d is in
    cc (e.1)
