use Rattle.std.proofs.Common.{rules}
use Rattle.vx_spec.proofs.EndLaws.{last_cut_at, no_last_cut}
use Rattle.vx_text.proofs.marks.last_cut.Goals as goal

pub returns-in-Some : goal.returns-in-Some
returns-in-Some c = last_cut_at c.args.mark c.args.text.now c.in-Some.at (search rules) (search rules) (search rules)

pub returns-in-None : goal.returns-in-None
returns-in-None c = no_last_cut c.args.mark c.args.text.now (search rules)
