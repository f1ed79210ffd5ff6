use Rattle.vx_translate.proofs.CanonicalAgain.{means_again, printed_again}
use Rattle.vx_translate.proofs.laws.canonical_again.Goals as goal

pub returns-clause-text : goal.returns-clause-text
returns-clause-text g c = printed_again g.S.Scheme g.met.S.Scheme.total g.met.S.Scheme.texts

pub returns-clause-same : goal.returns-clause-same
returns-clause-same g c = means_again g.S.Scheme g.met.S.Scheme.total g.met.S.Scheme.texts
