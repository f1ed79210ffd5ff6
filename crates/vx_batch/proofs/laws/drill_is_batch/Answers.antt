use Rattle.vx_batch.proofs.DrillLaws.{input_lines, batch_bytes, batch_ok, one_drill, all_counted}
use Rattle.vx_batch.proofs.laws.drill_is_batch.Goals as goal

pub returns-clause-lines : goal.returns-clause-lines
returns-clause-lines c = input_lines

pub returns-clause-bytes : goal.returns-clause-bytes
returns-clause-bytes c = batch_bytes (c.one_answer.ensures.lines 65536)

pub returns-clause-ok : goal.returns-clause-ok
returns-clause-ok c = batch_ok (c.one_answer.ensures.lines 65536)

pub returns-clause-all : goal.returns-clause-all
returns-clause-all c = all_counted

pub returns-clause-one : goal.returns-clause-one
returns-clause-one c = one_drill (c.one_answer.ensures.lines 65536)
