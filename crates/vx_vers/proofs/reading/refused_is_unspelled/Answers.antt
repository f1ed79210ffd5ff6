use Rattle.vx_vers.specs.Heads.{solid}
use Rattle.vx_vers.proofs.OneList.{unspelled}
use Rattle.vx_vers.proofs.reading.refused_is_unspelled.Goals as goal

pub returns : goal.returns
returns g c = λ text fault list p q. unspelled g.S.Scheme.Spells g.met.S.Scheme.texts.spells_one g.S.Scheme.order g.met.S.Scheme.total g.S.Scheme.IsWithin g.S.Scheme.name (solid text) fault list p q
