use Rattle.std.proofs.Common.{ap, subst}
use Rattle.vx_batch.specs.Fields.{texts}
use Rattle.vx_cli.specs.Runs.{RunsSo}
use Rattle.vx_cli.proofs.exit_number.Goals as goal

pub returns : goal.returns
returns g c =
    let run = c.run.ensures in (
      c.run.result,
      c.number.ensures,
      subst (λ words. RunsSo g.R.Source.left g.R.Source.faults g.W.Sink.held g.W.Sink.faults g.W.Sink.write_gives words c.run.result c.args.source.now c.run.new.source c.args.sink.now c.run.new.sink) (ap texts c.words_behind_name-words.ensures)
          (record {
            usage = run.usage;
            untouched = run.untouched;
            line = run.line;
            line_front = run.line_front;
            line_unread = run.line_unread;
            says = run.says;
            batch = run.batch;
            batch_says = run.batch_says;
            drill = run.drill;
            drill_front = run.drill_front;
            drill_unread = run.drill_unread;
            read_fault = run.read_fault;
            no_read_fault = run.no_read_fault;
            write_fault = run.write_fault;
            no_write_fault = run.no_write_fault;
            write_fails = run.write_fails;
            writes = run.writes;
            limit = run.limit;
          }),
    )
