use Rattle.purl_types.proofs.Values.{one_candidate_of, none_of}
use Rattle.purl_types.proofs.laws.one_candidate.Goals as goal

pub returns-clause-text : goal.returns-clause-text
returns-clause-text c = one_candidate_of

pub returns-clause-none : goal.returns-clause-none
returns-clause-none c = none_of
