use Rattle.std.proofs.Common.{◌≡◌, true}
use Rattle.vx_spec.specs.Numerals.{is_numeral}
use Rattle.vx_spec.proofs.NumeralLaws.{parsed, not_parsed}
use Rattle.vx_text.proofs.numerals.long_numeral.Goals as goal

pub returns-in-Ok : goal.returns-in-Ok
returns-in-Ok c =
    let is : is_numeral c.args.text.now ≡ true = cc in
    let p = parsed _ _ _ is c.parse.ensures.value.0 c.in-Ok.is in
    (is, p.0, p.1)

pub returns-in-Err : goal.returns-in-Err
returns-in-Err c = let is : is_numeral c.args.text.now ≡ true = cc in (is, not_parsed _ _ _ is c.parse.ensures.value.0 c.in-Err.is)
