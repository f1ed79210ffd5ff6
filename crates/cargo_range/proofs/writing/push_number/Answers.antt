use Rattle.std.proofs.Common.{◌++◌, ◌∙◌, ℕ, List, sym, ap, arith}
use Rattle.std.proofs.lemmas.Result.{on_ok_weaker}
use Rattle.vx_spec.specs.Numerals.{numeral_text}
use Rattle.vx_spec.proofs.NumeralLaws.{decimal_is}
use Rattle.cargo_range.proofs.writing.push_number.Goals as goal

pub returns-clause-ok : goal.returns-clause-ok
returns-clause-ok c =
    let fits = c.ranges.number.fits in
    let digits = ap numeral_text c.from.ensures ∙ sym (decimal_is c.args.number (omega arith)) in
    on_ok_weaker c.push_number.result (λ e. e ∙ ap (λ (text : List ℕ). c.args.out.now ++ text) digits) c.push_number.ensures.ok
