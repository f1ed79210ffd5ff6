use Rattle.std.proofs.Common.{refl}
use Rattle.vx_cli.proofs.job.job_of_two.Goals as goal

pub returns-in_default : goal.returns-in_default
returns-in_default c = c.job_of_line.ensures _ refl (λ e. cc e) (λ text e. c.in_default.not-drill (cc e))
