use Rattle.std.proofs.Common.{◌++◌, ◌∷◌, ◌∙◌, [], ap, sym, subst, take}
use Rattle.std.proofs.lemmas.List.{take_more}
use Rattle.vx_spec.proofs.EachLaws.{each_append}
use Rattle.vx_vers.specs.Again.{EachWritable, IsWritable}
use Rattle.vx_vers.specs.Texts.{constraint_text}
use Rattle.vx_text.proofs.Pushed.{pushed}
use Rattle.vx_vers.proofs.writing.push_joined.Goals as goal

pub loop-i-preserved : goal.loop-i-preserved
loop-i-preserved g c =
    let list = c.args.list.now in
    let i = c.loop-i.i in
    let x = c.index-list-i.result in
    record {
      text = pushed 124 (constraint_text g.S.Scheme.normal) _ _ _ _ list i _ c.loop-i-test.true c.index-list-i.is c.loop-i.invariant.text c.in_ok-push_bar.ensures.ok c.in_ok-push_constraint.ensures.text;
      versions = subst (EachWritable g.S.Scheme.IsVersion g.S.Scheme.IsWithin g.S.Scheme.normal) (sym (take_more list i x c.loop-i-test.true ∙ ap (λ e. take i list ++ e ∷ []) (sym c.index-list-i.is)))
          (each_append (λ e. IsWritable g.S.Scheme.IsVersion g.S.Scheme.IsWithin g.S.Scheme.normal e.version) (take i list) (x ∷ []) c.loop-i.invariant.versions (c.in_ok-push_constraint.ensures.version, tt));
    }
