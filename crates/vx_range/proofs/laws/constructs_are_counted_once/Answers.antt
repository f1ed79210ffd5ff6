use Rattle.vx_range.specs.Laws.OneRefusal.{reads_one}
use Rattle.vx_range.specs.Laws.Sizes.{one_count}
use Rattle.vx_range.proofs.laws.constructs_are_counted_once.Goals as goal

pub returns : goal.returns
returns g c = λ text. one_count g.L.Language.IsCut g.L.Language.ReadsAs text
    (reads_one g.L.Language.ReadsAs g.L.Language.IsPast g.met.L.Language.pieces g.L.Language.IsCut g.met.L.Language.cuts text)
