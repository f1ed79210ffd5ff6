-- What is said of each text that is cut so is said of this one.
use Rattle.vx_range.proofs.bounds.read_text.Goals as goal

pub returns-in-Ok-clause-ok : goal.returns-in-Ok-clause-ok
returns-in-Ok-clause-ok g c = c.read_cut.ensures.ok c.args.text.now (rw (c.in-Ok.is, c.as_bytes.ensures.value) at c.cut_text.ensures.cut)

pub returns-in-Ok-clause-err : goal.returns-in-Ok-clause-err
returns-in-Ok-clause-err g c = c.read_cut.ensures.err c.args.text.now (rw (c.in-Ok.is, c.as_bytes.ensures.value) at c.cut_text.ensures.cut)
