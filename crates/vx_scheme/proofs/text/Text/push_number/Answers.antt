-- The digit, and the digits that the buffer gives, are the numeral.
use Rattle.std.proofs.Common.{◌<◌, ◌^◌, arith}
use Rattle.std.proofs.lemmas.Fmt.{decimal_digit}
use Rattle.vx_spec.proofs.NumeralLaws.{decimal_is}
use Rattle.vx_scheme.proofs.text.Text.push_number.Goals as goal

pub returns-then-number-lt10-clause-ok : goal.returns-then-number-lt10-clause-ok
returns-then-number-lt10-clause-ok c =
    let small : c.args.number < 2 ^ 128 = omega arith in
    let below : c.args.number < 10 = omega arith in
    rw (← decimal_is c.args.number small, decimal_digit c.args.number below) c.push_digit.ensures.ok

pub returns-else-number-lt10-clause-ok : goal.returns-else-number-lt10-clause-ok
returns-else-number-lt10-clause-ok c =
    let small : c.args.number < 2 ^ 128 = omega arith in
    rw (← decimal_is c.args.number small, ← c.format.ensures.text) c.push_str.ensures.ok
