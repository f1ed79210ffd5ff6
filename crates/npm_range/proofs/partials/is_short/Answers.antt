use Rattle.std.proofs.Common.{◌≡◌, ◌+◌, ◌-◌, arith, true, false, sym, ◌∙◌}
use Rattle.npm_range.specs.Reading.{is_number}
use Rattle.npm_range.proofs.NumberLaws.{short_at_most, no_number, one_number, more_numbers, none_at_most}
use Rattle.npm_range.proofs.partials.is_short.Goals as goal

pub loop-i-init : goal.loop-i-init
loop-i-init c n e = short_at_most n c.args.text.now (omega arith)

pub returns-then-not-is_number : goal.returns-then-not-is_number
returns-then-not-is_number c =
    let no : is_number c.cut_bytes.result.0.now ≡ false = cc in
    sym (c.loop-i.invariant (2 - c.loop-i.i + 1) (omega arith) ∙ no_number _ _ _ c.cut_bytes.ensures no (2 - c.loop-i.i + 1))

pub returns-in_default : goal.returns-in_default
returns-in_default c =
    let is : is_number c.cut_bytes.result.0.now ≡ true = cc in
    sym (c.loop-i.invariant (2 - c.loop-i.i + 1) (omega arith) ∙ one_number _ _ (rw c.in_default.is at c.cut_bytes.ensures) is (2 - c.loop-i.i))

pub loop-i-preserved : goal.loop-i-preserved
loop-i-preserved c n e =
    let is : is_number c.cut_bytes.result.0.now ≡ true = cc in
    c.loop-i.invariant (n + 1) (omega arith) ∙ more_numbers _ _ _ (rw c.in-Some.is at c.cut_bytes.ensures) is n

pub returns : goal.returns
returns c = sym (c.loop-i.invariant 0 (omega arith) ∙ none_at_most c.loop-i.rest.now)
