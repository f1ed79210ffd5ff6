use Rattle.std.proofs.Common.{true, ap, subst, ◌∙◌, IfOk}
use Rattle.vx_batch.specs.Drill.{IsDrillAnswer}
use Rattle.vx_batch.specs.Fields.{texts}
use Rattle.vx_cli.specs.Jobs.{IsJob}
use Rattle.vx_cli.specs.Runs.{IsWordsAnswer}
use Rattle.vx_cli.specs.declared.job.Job.TheVariants.{Batch, Drill}
use Rattle.vx_cli.proofs.Said.{appends_front, appends_said, appends_such, one_count}
use Rattle.vx_cli.proofs.running.run.Goals as goal

pub returns-in-Some-Line-clause-line : goal.returns-in-Some-Line-clause-line
returns-in-Some-Line-clause-line g c = λ request is ok done.
    appends_such (IsWordsAnswer (texts c.args.words.now.items)) c.words_answer.result _ _ (rw c.as_slice-in-Some-Line.ensures.value at c.words_answer.ensures) ok (c.put_answer.ensures.line ok done)

pub returns-in-Some-Line-clause-line_front : goal.returns-in-Some-Line-clause-line_front
returns-in-Some-Line-clause-line_front g c = λ request is.
    appends_front (IsWordsAnswer (texts c.args.words.now.items)) c.words_answer.result _ _ (rw c.as_slice-in-Some-Line.ensures.value at c.words_answer.ensures) c.put_answer.ensures.front

pub returns-in-Some-Line-clause-says : goal.returns-in-Some-Line-clause-says
returns-in-Some-Line-clause-says g c = λ request is done.
    appends_said _ request _ _ is
    (appends_such (IsWordsAnswer (texts c.args.words.now.items)) c.words_answer.result _ _ (rw c.as_slice-in-Some-Line.ensures.value at c.words_answer.ensures) true (c.put_answer.ensures.line true done))

pub returns-in-None-clause-batch : goal.returns-in-None-clause-batch
returns-in-None-clause-batch g c = λ words. absurd (c.in-None.ensures Batch (ap texts c.as_slice.ensures.value ∙ words))
