use Rattle.std.proofs.Common.{arith, ◌<◌, ◌^◌}
use Rattle.std.specs.Char.{is_ascii_digit}
use Rattle.std.proofs.lemmas.List.Elements.{recursion_from_All, All-from_get_or}
use Rattle.std.proofs.lemmas.Result.{err_from_is_err_and}
use Rattle.vx_spec.specs.Runs.{past}
use Rattle.vx_spec.proofs.RunLaws.{run_all}
use Rattle.vx_scheme.proofs.GivingLaws.{part_faults}
use Rattle.deb_scheme.specs.Version.{is_other}
use Rattle.deb_scheme.proofs.PairLaws.{number_within, pair_within}
use Rattle.deb_scheme.proofs.letters.push_pair.Goals as goal

pub number_of-requires : goal.number_of-requires
number_of-requires c = rw (c.cut_run-2.ensures.run, c.cut_run.ensures.past) (run_all is_ascii_digit (past is_other c.args.part.now))

pub returns-clause-within : goal.returns-clause-within
returns-clause-within c =
    let part = c.args.part.now in
    let bytes = recursion_from_All (λ b. b < 2 ^ 128) part (All-from_get_or (λ b. b < 2 ^ 128) part 0 (λ k inside. let byte = c.type_inv.part k in omega (arith, byte))) in
    pair_within part bytes (rw (c.cut_run-2.ensures.run, c.cut_run.ensures.past) at (c.in_ok-number.ensures.gives.1))

pub returns-in_err-number-clause-err : goal.returns-in_err-number-clause-err
returns-in_err-number-clause-err c =
    let p = err_from_is_err_and c.from_residual.result c.from_residual.ensures.1 in
    rw (p.1, p.2) (part_faults _ (number_within c.args.part.now) (rw (c.cut_run-2.ensures.run, c.cut_run.ensures.past) at (c.in_err-number.ensures.gives)))
