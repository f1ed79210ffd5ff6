use Rattle.purl_core.proofs.OneRefusal.{one_refusal}
use Rattle.purl_types.proofs.OneAnswer.{one_text, text_or_refusal}
use Rattle.purl_types.proofs.laws.one_canonical_answer.Goals as goal

pub returns-clause-text : goal.returns-clause-text
returns-clause-text c = one_text

pub returns-clause-refusal : goal.returns-clause-refusal
returns-clause-refusal c text a b some also p q = one_refusal text a b p q some also

pub returns-clause-apart : goal.returns-clause-apart
returns-clause-apart c = text_or_refusal
