use Rattle.std.proofs.Common.{◌++◌, ◌∙◌, sym, ap, subst}
use Rattle.vx_vers.specs.Again.{SpellsSame}
use Rattle.vx_vers.specs.Texts.{vers_text}
use Rattle.vx_vers.proofs.VersionLaws.{again_err, again_ok}
use Rattle.vx_vers.proofs.reading.read_again.Goals as goal

pub returns-in-Ok : goal.returns-in-Ok
returns-in-Ok g c =
    let scheme = g.S.Scheme in
    let one = g.met.S.Scheme.texts.spells_one in
    let list = c.args.list.now in
    let text = c.as_str.result.now in
    let printed = vers_text scheme.name scheme.normal list in
    let is = c.as_str.ensures ∙ c.in-Ok.ensures.ok ∙ ap (λ t. t ++ printed) c.new-text.ensures in
    let same = subst (λ t. SpellsSame scheme.name scheme.order scheme.Spells scheme.IsWithin t list) (sym is) c.in-Ok.ensures.spells in
    record {
      ok = again_ok scheme.Spells scheme.IsWithin one scheme.order g.met.S.Scheme.total scheme.name text list c.read.result same c.read.ensures.ok;
      err = again_err scheme.Spells scheme.IsWithin one scheme.order g.met.S.Scheme.total scheme.name text list c.read.result same c.read.ensures.err;
    }
