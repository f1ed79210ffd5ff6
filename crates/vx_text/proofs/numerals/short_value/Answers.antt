-- One digit more keeps the value at hand.
use Rattle.std.proofs.Common.{◌≡◌, ◌<◌, ◌^◌, true, get_or, length, arith}
use Rattle.std.specs.Char.{is_ascii_digit}
use Rattle.std.proofs.lemmas.Bool.{and_from}
use Rattle.std.proofs.lemmas.Grind.{pow_more}
use Rattle.std.proofs.lemmas.List.Folds.{list_all_more}
use Rattle.vx_text.proofs.ValueLaws.{digit_most, few_digits, value_more}
use Rattle.vx_text.proofs.numerals.short_value.Goals as goal

pub overflow_mul-number : goal.overflow_mul-number
overflow_mul-number c =
    let few : c.loop-byte.number < 10 ^ 18 = few_digits _ _ c.loop-byte.invariant.below (omega arith) in
    omega (arith, few)

pub overflow_add-number : goal.overflow_add-number
overflow_add-number c =
    let few : c.loop-byte.number < 10 ^ 18 = few_digits _ _ c.loop-byte.invariant.below (omega arith) in
    omega (arith, few)

pub loop-byte-preserved : goal.loop-byte-preserved
loop-byte-preserved c =
    let text = c.args.text.now in
    let i = c.loop-byte.byte-index in
    let inside : i < length text = omega arith in
    let digit : is_ascii_digit (get_or text i 0) ≡ true = cc in
    record {
      digits = rw (list_all_more is_ascii_digit text i 0 inside) (and_from _ _ c.loop-byte.invariant.digits digit);
      number = omega (arith, c.loop-byte.invariant.number, value_more text i inside, c.from.ensures);
      below = omega (arith, c.loop-byte.invariant.below, pow_more 10 i, digit_most (get_or text i 0) digit, c.from.ensures);
    }
