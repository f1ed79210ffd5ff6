use Rattle.std.proofs.Common.{◌≡◌, ◌∙◌, sym, false, arith}
use Rattle.std.specs.Char.{is_ascii_digit}
use Rattle.vx_spec.specs.Runs.{run}
use Rattle.vx_spec.proofs.RunLaws.{run_all}
use Rattle.vx_text.specs.Past.{is_past}
use Rattle.vx_text.proofs.PastLaws.{few_first, pass_run}
use Rattle.vx_text.proofs.past.first_past.Goals as goal

pub is_past-requires : goal.is_past-requires
is_past-requires c = rw c.cut_run.ensures.run (run_all is_ascii_digit c.runs.rest.now)

pub runs-preserved : goal.runs-preserved
runs-preserved c =
    let rest = c.runs.rest.now in
    let fine : is_past (run is_ascii_digit rest) ≡ false = rw c.cut_run.ensures.run at (sym c.is_past.ensures ∙ c.if-is_past.false) in (
      rw (c.cut_run.ensures.run, c.cut_run.ensures.past) (sym (pass_run c.runs.from rest fine) ∙ c.runs.invariant.0),
      omega (arith, c.cut_run.ensures.within, c.runs.invariant.1),
    )

pub returns-then-text-lt-LEAST_PAST : goal.returns-then-text-lt-LEAST_PAST
returns-then-text-lt-LEAST_PAST c = sym (few_first c.args.at c.args.text.now (omega arith))
