use Rattle.vx_translate.proofs.OneCanonical.{one_text, one_refusal, text_or_refusal}
use Rattle.vx_translate.proofs.laws.one_canonical.Goals as goal

pub returns-clause-text : goal.returns-clause-text
returns-clause-text g c = one_text g.S.Scheme g.met.S.Scheme.total g.met.S.Scheme.texts

pub returns-clause-refusal : goal.returns-clause-refusal
returns-clause-refusal g c = one_refusal g.S.Scheme g.met.S.Scheme.total g.met.S.Scheme.texts

pub returns-clause-apart : goal.returns-clause-apart
returns-clause-apart g c = text_or_refusal g.S.Scheme g.met.S.Scheme.total g.met.S.Scheme.texts
