use Rattle.vx_range.specs.Laws.Sizes.{alternatives_are_short, terms_are_short}
use Rattle.vx_range.proofs.laws.texts_are_short.Goals as goal

pub returns-clause-alternatives : goal.returns-clause-alternatives
returns-clause-alternatives g c = λ domain text bounds two.
    alternatives_are_short (g.L.Making.spans domain) two g.L.Language.IsCut g.L.Language.ReadsAs g.L.Language.IsPast (g.L.Making.outcome domain) text bounds

pub returns-clause-terms : goal.returns-clause-terms
returns-clause-terms g c = λ domain text bounds two.
    terms_are_short (g.L.Making.spans domain) two g.L.Language.IsCut g.L.Language.ReadsAs g.L.Language.IsPast (g.L.Making.outcome domain) text bounds
