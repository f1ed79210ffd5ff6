use Rattle.std.proofs.Common.{◌≡◌, [], subst, rules}
use Rattle.vx_interval.specs.Joined.{IsJoined}
use Rattle.vx_vers.specs.Again.{SpellsSame}
use Rattle.vx_simplify.specs.Listed.{list_of}
use Rattle.vx_translate.specs.Forward.{Translates}
use Rattle.vx_translate.proofs.ForwardLaws.{holds_same, holds_none}
use Rattle.vx_translate.proofs.ShortLaws.{has_no_more}
use Rattle.vx_translate.proofs.forward.translate.Goals as goal

pub returns-in-Err-Empty-clause-empty : goal.returns-in-Err-Empty-clause-empty
returns-in-Err-Empty-clause-empty g c = λ _.
    let none : c.in_ok-set.set ≡ [] = search rules in
    holds_none g.N.Scheme g.N.Native g.met.N.Scheme.total g.met.N.Native.ranges c.args.domain c.args.text.now
    (record {
      bounds = c.in-Ok.bounds;
      made = c.in-Ok.ensures.ok;
      joined = subst (IsJoined g.N.Scheme.order c.in-Ok.bounds) none c.in_ok-set.ensures.joined;
    })

pub returns-clause-members : goal.returns-clause-members
returns-clause-members g c =
    let s = g.N.Scheme in
    let translated : Translates s g.N.Native c.args.domain c.args.text.now c.write.new.out = search rules in
    let is : c.in-Ok-from_set.list ≡ list_of s.order translated.spans = search rules in
    let spells : SpellsSame s.name s.order s.Spells s.IsWithin c.write.new.out c.in-Ok-from_set.list = search rules in
    holds_same s g.N.Native g.met.N.Scheme.total g.met.N.Native.ranges c.args.domain c.args.text.now c.write.new.out translated.bounds translated.spans translated.made translated.joined translated.some
    (subst (SpellsSame s.name s.order s.Spells s.IsWithin c.write.new.out) is spells)

pub returns-clause-short : goal.returns-clause-short
returns-clause-short g c =
    let s = g.N.Scheme in
    let translated : Translates s g.N.Native c.args.domain c.args.text.now c.write.new.out = search rules in
    let is : c.in-Ok-from_set.list ≡ list_of s.order translated.spans = search rules in
    let spells : SpellsSame s.name s.order s.Spells s.IsWithin c.write.new.out c.in-Ok-from_set.list = search rules in
    has_no_more s g.N.Native g.met.N.Scheme.total c.args.domain c.args.text.now c.write.new.out translated.bounds translated.spans translated.made translated.joined
    (subst (SpellsSame s.name s.order s.Spells s.IsWithin c.write.new.out) is spells)
