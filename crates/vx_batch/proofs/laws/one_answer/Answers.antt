use Rattle.vx_batch.proofs.OneLine.{one_of_fields, one_of_line}
use Rattle.vx_batch.proofs.laws.one_answer.Goals as goal

pub returns-clause-fields : goal.returns-clause-fields
returns-clause-fields c =
    one_of_fields c.one_line_to_vers.ensures c.one_line_from_vers.ensures c.one_line_of_canon.ensures c.one_line_of_has.ensures c.one_line_of_purl.ensures c.one_line_of_same.ensures c.one_line_of_check.ensures

pub returns-clause-lines : goal.returns-clause-lines
returns-clause-lines c =
    one_of_line c.one_line_to_vers.ensures c.one_line_from_vers.ensures c.one_line_of_canon.ensures c.one_line_of_has.ensures c.one_line_of_purl.ensures c.one_line_of_same.ensures c.one_line_of_check.ensures
