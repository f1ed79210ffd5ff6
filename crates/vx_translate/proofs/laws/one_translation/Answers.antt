use Rattle.vx_translate.proofs.OneForward.{one_text, one_refusal, text_or_refusal}
use Rattle.vx_translate.proofs.laws.one_translation.Goals as goal

pub returns-clause-text : goal.returns-clause-text
returns-clause-text g c = one_text g.N.Scheme g.N.Native g.met.N.Scheme.total g.met.N.Native.ranges

pub returns-clause-refusal : goal.returns-clause-refusal
returns-clause-refusal g c = one_refusal g.N.Scheme g.N.Native g.met.N.Scheme.total g.met.N.Native.ranges

pub returns-clause-apart : goal.returns-clause-apart
returns-clause-apart g c = text_or_refusal g.N.Scheme g.N.Native g.met.N.Scheme.total g.met.N.Native.ranges
