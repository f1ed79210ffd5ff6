use Rattle.std.proofs.Common.{◌≢◌, inl, refl, []}
use Rattle.vx_vers.specs.Steps.Reading.{written_in}
use Rattle.vx_vers.proofs.ReadLaws.{faulty, none_spelled, settled, spelled_none}
use Rattle.vx_vers.proofs.reading.read_constraints.Goals as goal

pub returns-then-is_empty : goal.returns-then-is_empty
returns-then-is_empty g c = λ _. inl (none_spelled g.S.Scheme.Spells g.S.Scheme.IsWithin (written_in c.args.text.now) c.in-Ok.list (c.is_empty.ensures.0 c.if-is_empty.true) c.in-Ok.ensures.0, refl)

pub returns-else-is_empty : goal.returns-else-is_empty
returns-else-is_empty g c =
    let texts = written_in c.args.text.now in
    let some : texts ≢ [] = λ e. let empty = c.is_empty.ensures.1 (spelled_none g.S.Scheme.Spells g.S.Scheme.IsWithin texts c.in-Ok.list e c.in-Ok.ensures.0) in cc (empty, c.if-is_empty.false) in
    settled g.S.Scheme.Spells g.S.Scheme.IsWithin g.S.Scheme.order texts c.in-Ok.list c.settle.result some c.requires.stars c.in-Ok.ensures.0 c.in-Ok.ensures.1 c.settle.ensures

pub returns-in-Err : goal.returns-in-Err
returns-in-Err g c = faulty g.S.Scheme.Spells g.S.Scheme.IsWithin g.S.Scheme.order (written_in c.args.text.now) c.in-Err.fault c.requires.stars c.in-Err.ensures
