use Rattle.std.proofs.Common.{◌≡◌, true, inl, refl}
use Rattle.std.proofs.lemmas.Result.{IfOk-weaker}
use Rattle.npm_scheme.specs.Written.{parts}
use Rattle.npm_range.specs.Reading.{is_short}
use Rattle.npm_range.proofs.PartialLaws.{whole_answers}
use Rattle.npm_range.proofs.partials.read_partial.Goals as goal

pub returns-in-Err : goal.returns-in-Err
returns-in-Err c =
    let short : is_short c.args.text.now ≡ true = cc in
    ((_, inl (short, refl)), (_, inl (short, refl), c.in-Err.ensures))

pub returns-in-Some : goal.returns-in-Some
returns-in-Some c = IfOk-weaker c.whole_partial.result _ _ (λ r. whole_answers c.args.at c.args.text.now (parts c.in-Some.written) r c.in-Some.ensures) c.whole_partial.ensures
