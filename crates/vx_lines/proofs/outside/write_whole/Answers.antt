use Rattle.std.proofs.Common.{◌∙◌, ◌++◌, take}
use Rattle.std.proofs.KnownBytes.{Appends-trans}
use Rattle.std.proofs.lemmas.Result.{err_from_is_err_and}
use Rattle.vx_lines.proofs.Calls.{succeeds_more}
use Rattle.vx_lines.proofs.Parts.{moves_front}
use Rattle.vx_lines.proofs.outside.write_whole.Goals as goal

pub loop-rest-preserved : goal.loop-rest-preserved
loop-rest-preserved g c =
    let (done, split, appended, same, made) = c.loop-rest.invariant in
    let rest = c.loop-rest.rest.now in
    let n = c.in_ok-count.count in (
      done ++ take n rest,
      moves_front _ done rest n split,
      Appends-trans _ _ _ _ _ appended c.in_ok-count.ensures.bytes,
      c.in_ok-count.ensures.cause.kept ∙ same,
      succeeds_more g.W.Sink.write_gives _ _ _ rest n made c.in_ok-count.ensures.gives,
    )

pub returns-in_err-count-clause-calls : goal.returns-in_err-count-clause-calls
returns-in_err-count-clause-calls g c =
    let (done, split, appended, same, made) = c.loop-rest.invariant in
    let p = err_from_is_err_and c.from_residual.result c.from_residual.ensures.1 in
    rw p.1 (c.loop-rest.sink, made, (c.loop-rest.rest.now, c.in_err-count.field-0.0, c.in_err-count.ensures.gives))

pub returns-clause-calls : goal.returns-clause-calls
returns-clause-calls g c = c.loop-rest.invariant.4
