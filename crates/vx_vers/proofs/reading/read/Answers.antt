use Rattle.std.proofs.Common.{◌≡◌, ◌∙◌, true, sym, subst}
use Rattle.std.specs.List.{list_all}
use Rattle.vx_spec.specs.Runs.{is_solid}
use Rattle.vx_vers.proofs.HeadLaws.{all_filter}
use Rattle.vx_vers.proofs.PartLaws.{plain_solid}
use Rattle.vx_vers.proofs.SolidLaws.{read_err, read_ok, same_solid}
use Rattle.vx_vers.proofs.reading.read.Goals as goal

pub read_solid-requires : goal.read_solid-requires
read_solid-requires g c =
    let all = sym c.is_plain.ensures ∙ c.if-is_plain.true in
    record { solid = plain_solid c.args.text.now all; plain = λ _. all }

pub returns-then-is_plain-clause-ok : goal.returns-then-is_plain-clause-ok
returns-then-is_plain-clause-ok g c =
    read_ok g.S.Scheme.name g.S.Scheme.order g.S.Scheme.Spells g.S.Scheme.IsWithin c.args.text.now c.args.text.now c.read_solid.result (sym (same_solid c.args.text.now (plain_solid c.args.text.now (sym c.is_plain.ensures ∙ c.if-is_plain.true)))) c.read_solid.ensures

pub returns-then-is_plain-clause-err : goal.returns-then-is_plain-clause-err
returns-then-is_plain-clause-err g c =
    read_err g.S.Scheme.name g.S.Scheme.order g.S.Scheme.Spells g.S.Scheme.IsWithin c.args.text.now c.args.text.now c.read_solid.result (sym (same_solid c.args.text.now (plain_solid c.args.text.now (sym c.is_plain.ensures ∙ c.if-is_plain.true)))) c.read_solid.ensures

pub returns-then-is_solid-clause-ok : goal.returns-then-is_solid-clause-ok
returns-then-is_solid-clause-ok g c =
    read_ok g.S.Scheme.name g.S.Scheme.order g.S.Scheme.Spells g.S.Scheme.IsWithin c.args.text.now c.args.text.now c.read_solid-then-is_solid.result (sym (same_solid c.args.text.now (sym c.is_solid.ensures ∙ c.if-is_solid.true))) c.read_solid-then-is_solid.ensures

pub returns-then-is_solid-clause-err : goal.returns-then-is_solid-clause-err
returns-then-is_solid-clause-err g c =
    read_err g.S.Scheme.name g.S.Scheme.order g.S.Scheme.Spells g.S.Scheme.IsWithin c.args.text.now c.args.text.now c.read_solid-then-is_solid.result (sym (same_solid c.args.text.now (sym c.is_solid.ensures ∙ c.if-is_solid.true))) c.read_solid-then-is_solid.ensures

pub read_solid-requires-in-Ok-clause-solid : goal.read_solid-requires-in-Ok-clause-solid
read_solid-requires-in-Ok-clause-solid g c = subst (λ t. list_all is_solid t ≡ true) (sym (c.as_str.ensures ∙ c.in-Ok.ensures)) (all_filter is_solid c.args.text.now)

pub returns-in-Ok-clause-ok : goal.returns-in-Ok-clause-ok
returns-in-Ok-clause-ok g c =
    read_ok g.S.Scheme.name g.S.Scheme.order g.S.Scheme.Spells g.S.Scheme.IsWithin c.args.text.now c.as_str.result.now c.read_solid-in-Ok.result (c.as_str.ensures ∙ c.in-Ok.ensures) c.read_solid-in-Ok.ensures

pub returns-in-Ok-clause-err : goal.returns-in-Ok-clause-err
returns-in-Ok-clause-err g c =
    read_err g.S.Scheme.name g.S.Scheme.order g.S.Scheme.Spells g.S.Scheme.IsWithin c.args.text.now c.as_str.result.now c.read_solid-in-Ok.result (c.as_str.ensures ∙ c.in-Ok.ensures) c.read_solid-in-Ok.ensures
