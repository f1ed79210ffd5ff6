use Rattle.std.proofs.Common.{◌∙◌, subst, rules}
use Rattle.vx_vers.specs.Again.{IsSameList, SpellsSame}
use Rattle.vx_vers.specs.Meaning.{kind}
use Rattle.vx_simplify.specs.Simplified.{simplified}
use Rattle.vx_vers.proofs.AgainLaws.{means_same}
use Rattle.vx_simplify.proofs.SameLaws.{again_valid, again_once}
use Rattle.vx_translate.proofs.canonical.canonical.Goals as goal

pub returns-clause-same : goal.returns-clause-same
returns-clause-same g c =
    let s = g.S.Scheme in
    let spells : SpellsSame s.name s.order s.Spells s.IsWithin c.write.new.out c.into_simple-simple.result = search rules in
    let same : IsSameList s.order spells.again (simplified kind c.in_ok-list.list) = subst (IsSameList s.order spells.again) c.into_simple-simple.ensures.ok spells.same in
    record {
      list = c.in_ok-list.list;
      read = c.in_ok-list.ensures.ok;
      canonical = spells.again;
      again = record { spelled = spells.spelled; within = spells.within };
      valid = again_valid s.order spells.again c.in_ok-list.list same;
      same = λ v. means_same g.met.S.Scheme.total v spells.again c.into_simple-simple.result spells.same ∙ c.into_simple-simple.ensures.members v;
      simple = again_once s.order spells.again c.in_ok-list.list same;
    }
