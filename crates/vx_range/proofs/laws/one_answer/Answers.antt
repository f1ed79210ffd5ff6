use Rattle.vx_range.specs.Laws.OneRefusal.{reads_one, refuses_one}
use Rattle.vx_range.proofs.laws.one_answer.Goals as goal

pub returns-clause-reads : goal.returns-clause-reads
returns-clause-reads g c = reads_one g.L.Language.ReadsAs g.L.Language.IsPast g.met.L.Language.pieces g.L.Language.IsCut g.met.L.Language.cuts

pub returns-clause-refused : goal.returns-clause-refused
returns-clause-refused g c = λ domain. refuses_one g.L.Language.ReadsAs g.L.Language.IsPast g.met.L.Language.pieces g.L.Language.IsCut g.met.L.Language.cuts (g.L.Making.outcome domain)
