use Rattle.vx_translate.proofs.OneCheck.{one_decision, one_refusal, decision_or_refusal}
use Rattle.vx_translate.proofs.laws.one_checking.Goals as goal

pub returns-clause-decision : goal.returns-clause-decision
returns-clause-decision g c = one_decision g.S.Scheme g.met.S.Scheme.total g.met.S.Scheme.texts

pub returns-clause-refusal : goal.returns-clause-refusal
returns-clause-refusal g c = one_refusal g.S.Scheme g.met.S.Scheme.total g.met.S.Scheme.texts

pub returns-clause-apart : goal.returns-clause-apart
returns-clause-apart g c = decision_or_refusal g.S.Scheme g.met.S.Scheme.total g.met.S.Scheme.texts
