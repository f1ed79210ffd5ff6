use Rattle.std.proofs.Common.{ap, refl}
use Rattle.std.specs.Option.{option_copied}
use Rattle.std.proofs.lemmas.Result.{err_from_is_err_and}
use Rattle.vx_order.specs.Laws.Dotted.{pieces_cut}
use Rattle.nuget_scheme.proofs.Making.{first_numeral}
use Rattle.nuget_scheme.proofs.spelling.next_number.Goals as goal

pub numeral_of-requires : goal.numeral_of-requires
numeral_of-requires c =
    first_numeral _ _ _ (pieces_cut (option_copied c.args.rest) c.in-Some.text.now c.cut.result.0.now _ (ap option_copied c.in-Some.is) c.cut.ensures) c.requires

pub returns-in_err-number-in-Some-clause-err : goal.returns-in_err-number-in-Some-clause-err
returns-in_err-number-in-Some-clause-err c =
    let p = err_from_is_err_and c.from_residual.result c.from_residual.ensures.1 in
    rw (p.1, p.2, pieces_cut (option_copied c.args.rest) c.in-Some.text.now c.cut.result.0.now _ (ap option_copied c.in-Some.is) c.cut.ensures)
    c.in_err-number-in-Some.ensures.gives

pub returns-in_ok-number-in-Some-clause-ok : goal.returns-in_ok-number-in-Some-clause-ok
returns-in_ok-number-in-Some-clause-ok c =
    let gives = c.in_ok-number-in-Some.ensures.gives in
    rw (pieces_cut (option_copied c.args.rest) c.in-Some.text.now c.cut.result.0.now _ (ap option_copied c.in-Some.is) c.cut.ensures)
    (record { first = gives.0; small = rw gives.0 gives.1; rest = refl })
