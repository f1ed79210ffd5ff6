use Rattle.std.proofs.Common.{◌≡◌, ◌+◌, ◌∙◌, ℕ, true, length, ap, sym, subst}
use Rattle.std.proofs.lemmas.Result.{IfErr-weaker, on_ok_weaker}
use Rattle.std.specs.List.{list_all}
use Rattle.vx_text.specs.Escapes.{unescaped}
use Rattle.vx_vers.specs.Grammar.{HasForm}
use Rattle.vx_vers.specs.Steps.Reading.{constraint_of_version, is_plain}
use Rattle.vx_vers.proofs.PartLaws.{all_rest, some_bytes}
use Rattle.vx_vers.proofs.ReadLaws.{pushed_read, refused_read}
use Rattle.vx_vers.proofs.VersionLaws.{part_read}
use Rattle.vx_vers.proofs.reading.push_part.Goals as goal

pub stands_for_itself-requires : goal.stands_for_itself-requires
stands_for_itself-requires g c = λ p.
    let signed = c.cut_sign-comparator.ensures in
    all_rest is_plain signed.front c.cut_sign-comparator.result.1.now (subst (λ t. list_all is_plain t ≡ true) signed.joined (c.requires.plain p))

pub returns-then-stands_for_itself : goal.returns-then-stands_for_itself
returns-then-stands_for_itself g c =
    let Spells = g.S.Scheme.Spells in
    let IsWithin = g.S.Scheme.IsWithin in
    let k = c.len.result + 1 in
    let part = c.args.part.now in
    let comparator = c.cut_sign-comparator.result.0 in
    let raw = c.cut_sign-comparator.result.1.now in
    let stands = c.stands_for_itself.ensures c.if-stands_for_itself.true (some_bytes raw c.is_empty.result c.is_empty.ensures c.if-is_empty.false) in
    let number : k ≡ length c.args.list.now + 1 = ap (λ (n : ℕ). n + 1) c.len.ensures in
    let read = part_read Spells IsWithin k part raw raw comparator c.read.result c.cut_sign-comparator.ensures stands.0 stands.1 c.read.ensures.ok c.read.ensures.err in
    record {
      ok = on_ok_weaker c.push_read.result (pushed_read Spells IsWithin k part c.args.list.now c.push_read.new.list (constraint_of_version comparator k c.read.result) c.requires.some read) c.push_read.ensures.ok;
      err = IfErr-weaker c.push_read.result _ _ (λ fault. refused_read Spells IsWithin k part c.args.list.now (constraint_of_version comparator k c.read.result) fault number c.requires.some read) c.push_read.ensures.err;
    }

pub returns-in-Ok : goal.returns-in-Ok
returns-in-Ok g c =
    let Spells = g.S.Scheme.Spells in
    let IsWithin = g.S.Scheme.IsWithin in
    let k = c.len.result + 1 in
    let part = c.args.part.now in
    let comparator = c.cut_sign-comparator.result.0 in
    let raw = c.cut_sign-comparator.result.1.now in
    let plain = c.as_str.result.now in
    let some = some_bytes raw c.is_empty.result c.is_empty.ensures c.if-is_empty.false in
    let form : HasForm raw = record { some = some; whole = c.in-Ok.ensures.0; utf8 = c.in-Ok.ensures.1 } in
    let is : unescaped raw ≡ plain = sym (c.as_str.ensures ∙ c.in-Ok.ensures.2) in
    let number : k ≡ length c.args.list.now + 1 = ap (λ (n : ℕ). n + 1) c.len.ensures in
    let read = part_read Spells IsWithin k part raw plain comparator c.read-in-Ok.result c.cut_sign-comparator.ensures form is c.read-in-Ok.ensures.ok c.read-in-Ok.ensures.err in
    record {
      ok = on_ok_weaker c.push_read-in-Ok.result (pushed_read Spells IsWithin k part c.args.list.now c.push_read-in-Ok.new.list (constraint_of_version comparator k c.read-in-Ok.result) c.requires.some read) c.push_read-in-Ok.ensures.ok;
      err = IfErr-weaker c.push_read-in-Ok.result _ _ (λ fault. refused_read Spells IsWithin k part c.args.list.now (constraint_of_version comparator k c.read-in-Ok.result) fault number c.requires.some read) c.push_read-in-Ok.ensures.err;
    }
