use Rattle.purl_types.proofs.OneAnswer.{one_decision, one_comparison_refusal, decision_or_refusal}
use Rattle.purl_types.proofs.laws.one_comparison.Goals as goal

pub returns-clause-decision : goal.returns-clause-decision
returns-clause-decision c = one_decision

pub returns-clause-refusal : goal.returns-clause-refusal
returns-clause-refusal c = one_comparison_refusal

pub returns-clause-apart : goal.returns-clause-apart
returns-clause-apart c = decision_or_refusal
