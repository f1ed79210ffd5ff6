use Rattle.vx_range.proofs.RunningLaws.{alternatives_run_on, terms_run_on}
use Rattle.vx_range.proofs.laws.marks_run_on.Goals as goal

pub returns-clause-alternatives : goal.returns-clause-alternatives
returns-clause-alternatives g c = λ domain all each. alternatives_run_on (g.M.Making.spans domain) each all

pub returns-clause-terms : goal.returns-clause-terms
returns-clause-terms g c = λ domain all each. terms_run_on (g.M.Making.spans domain) each all
