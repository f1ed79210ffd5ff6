use Rattle.relation_ranges.specs.Laws.GemRange.{one_reads, one_refusal}
use Rattle.relation_ranges.proofs.gem.range.gem_one_answer.Goals as goal

pub returns-clause-reads : goal.returns-clause-reads
returns-clause-reads c = one_reads

pub returns-clause-refused : goal.returns-clause-refused
returns-clause-refused c = one_refusal
