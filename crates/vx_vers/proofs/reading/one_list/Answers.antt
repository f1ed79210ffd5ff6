use Rattle.vx_vers.specs.Heads.{solid}
use Rattle.vx_vers.proofs.OneList.{one_list}
use Rattle.vx_vers.proofs.reading.one_list.Goals as goal

pub returns : goal.returns
returns g c = λ text a b p q. one_list g.S.Scheme.Spells g.met.S.Scheme.texts.spells_one g.S.Scheme.order g.met.S.Scheme.total g.S.Scheme.name (solid text) a b p q
