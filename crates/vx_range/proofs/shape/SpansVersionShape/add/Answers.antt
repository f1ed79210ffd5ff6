-- The spans that are appended are those of one construct more.
use Rattle.std.proofs.lemmas.Result.{on_ok_weaker}
use Rattle.vx_range.specs.Pieces.{as_written}
use Rattle.vx_range.specs.Reading.{IsNoConstruct, IsPastNumeral}
use Rattle.vx_range.specs.Making.{IsEndless, IsTooHigh}
use Rattle.vx_range.proofs.FoundLaws.{still_found}
use Rattle.vx_range.proofs.MadeLaws.{adds_spans}
use Rattle.vx_range.proofs.shape.SpansVersionShape.add.Goals as goal

pub returns-clause-ok : goal.returns-clause-ok
returns-clause-ok g c =
    let reads = g.L.Language.ReadsAs in
    let made = g.L.Making.outcome c.args.domain in
    on_ok_weaker c.add_piece.result
    (still_found (IsNoConstruct reads) (IsPastNumeral g.L.Language.IsPast) (IsEndless reads made) (IsTooHigh reads made) reads
    (as_written c.args.piece.now) _ _ _ _ (λ construct. adds_spans (g.L.Making.spans c.args.domain) _ _ _ _ construct))
    c.add_piece.ensures.ok
