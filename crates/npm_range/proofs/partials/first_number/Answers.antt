use Rattle.std.proofs.Common.{◌≡◌, false, arith}
use Rattle.vx_spec.proofs.EndLaws.{cut_length}
use Rattle.npm_range.specs.Reading.{is_any}
use Rattle.npm_range.proofs.NumberLaws.{first_numeral, past_leads, first_value, first_within, rest_numbers}
use Rattle.npm_range.proofs.partials.first_number.Goals as goal

pub returns-in-Err-TooLarge : goal.returns-in-Err-TooLarge
returns-in-Err-TooLarge c =
    let large = rw c.in-Err-TooLarge.field-0-is at c.in-Err-TooLarge.ensures in
    let other : is_any c.cut.result.0.now ≡ false = cc in
    past_leads c.args.text.now _ _ c.cut.ensures c.args.at other large.0 large.1

pub unreachable-requires : goal.unreachable-requires
unreachable-requires c =
    let other = rw c.in-Err-NotDigits.field-0-is at c.in-Err-NotDigits.ensures in
    let any : is_any c.cut.result.0.now ≡ false = cc in
    let is = first_numeral c.args.text.now _ _ c.cut.ensures c.requires.numbers any in
    cc (is, other)

pub returns-in-Some : goal.returns-in-Some
returns-in-Some c =
    let cut = rw c.in-Some.is at c.cut.ensures in
    let other : is_any c.cut.result.0.now ≡ false = cc in (
      rw c.in-Ok.ensures.2 (first_value c.args.text.now _ _ cut other),
      first_within c.args.text.now _ _ cut c.args.at other c.in-Ok.ensures.0 c.in-Ok.ensures.1,
      (rest_numbers c.args.text.now _ _ cut c.requires.numbers, omega (arith, cut_length 46 c.args.text.now _ _ cut, c.requires.place)),
    )

pub returns-in-None : goal.returns-in-None
returns-in-None c =
    let cut = rw c.in-None.is at c.cut.ensures in
    let other : is_any c.cut.result.0.now ≡ false = cc in
    (rw c.in-Ok.ensures.2 (first_value c.args.text.now _ _ cut other), first_within c.args.text.now _ _ cut c.args.at other c.in-Ok.ensures.0 c.in-Ok.ensures.1, tt)
