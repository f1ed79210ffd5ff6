use Rattle.pep440_range.proofs.OperandLaws.{public_answers}
use Rattle.pep440_range.proofs.reading.read_operand.Goals as goal

pub returns-in-Equal : goal.returns-in-Equal
returns-in-Equal c = rw c.in-Equal.is c.read_either.ensures

pub returns-in-NotEqual : goal.returns-in-NotEqual
returns-in-NotEqual c = rw c.in-NotEqual.is c.read_either-in-NotEqual.ensures

pub returns-in-Compares : goal.returns-in-Compares
returns-in-Compares c =
    rw c.in-Compares.is (public_answers c.in-Compares.how c.args.at c.args.bytes.now c.read_version.result (rw c.asked_by.ensures at c.read_version.ensures))
