use Rattle.vx_range.specs.Laws.Sizes.{alternatives_of_short, terms_of_short}
use Rattle.vx_range.proofs.laws.bounds_are_short.Goals as goal

pub returns-clause-alternatives : goal.returns-clause-alternatives
returns-clause-alternatives g c = λ domain all two. alternatives_of_short (g.M.Making.spans domain) two all

pub returns-clause-terms : goal.returns-clause-terms
returns-clause-terms g c = λ domain all two. terms_of_short (g.M.Making.spans domain) two all
