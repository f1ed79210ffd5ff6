use Rattle.std.proofs.Common.{◌≡◌, ◌+◌, ◌≤◌, ap, subst, ℕ, List, Option, Some, length}
use Rattle.std.specs.Option.{option_copied}
use Rattle.std.proofs.lemmas.Result.{err_from_is_err_and}
use Rattle.vx_text.proofs.Joins.{parts_behind}
use Rattle.vx_text.specs.Pieces.{kept_parts}
use Rattle.vx_vers.specs.Steps.Reading.{IsReadUpTo, written_in}
use Rattle.vx_vers.proofs.PartLaws.{IsPlainLeft, left, plain_behind, plain_part}
use Rattle.vx_vers.proofs.ReadLaws.{read_more, read_stops, room_left}
use Rattle.vx_vers.proofs.reading.read_each.Goals as goal

pub parts-preserved : goal.parts-preserved
parts-preserved g c =
    let Spells = g.S.Scheme.Spells in
    let IsWithin = g.S.Scheme.IsWithin in
    let texts = written_in c.args.text.now in
    let is : option_copied c.parts.rest ≡ Some c.in-Some.more.now = ap option_copied c.in-Some.is in
    let behind = option_copied c.cut.result.1 in
    record {
      read = read_more Spells IsWithin texts c.in-Some.more.now c.cut.result.0.now behind c.parts.list c.push_next.new.list c.cut.ensures
          (subst (λ (rest : Option (List ℕ)). IsReadUpTo Spells IsWithin texts (kept_parts (parts_behind 124 rest)) c.parts.list) is c.parts.invariant.read) c.in_ok-push_next.ensures.ok;
      plain = plain_behind c.args.plain 124 c.in-Some.more.now c.cut.result.0.now behind c.cut.ensures
          (subst (λ (rest : Option (List ℕ)). IsPlainLeft c.args.plain rest) is c.parts.invariant.plain);
      room = room_left Spells IsWithin (length c.args.text.now + 1) c.in-Some.more.now c.cut.result.0.now behind c.parts.list c.push_next.new.list c.cut.ensures
          (subst (λ (rest : Option (List ℕ)). length c.parts.list + left rest ≤ length c.args.text.now + 1) is c.parts.invariant.room) c.in_ok-push_next.ensures.ok;
    }

pub push_next-requires-clause-plain : goal.push_next-requires-clause-plain
push_next-requires-clause-plain g c =
    let is : option_copied c.parts.rest ≡ Some c.in-Some.more.now = ap option_copied c.in-Some.is in
    plain_part c.args.plain 124 c.in-Some.more.now c.cut.result.0.now (option_copied c.cut.result.1) c.cut.ensures
    (subst (λ (rest : Option (List ℕ)). IsPlainLeft c.args.plain rest) is c.parts.invariant.plain)

pub returns-in_err-push_next : goal.returns-in_err-push_next
returns-in_err-push_next g c =
    let Spells = g.S.Scheme.Spells in
    let IsWithin = g.S.Scheme.IsWithin in
    let texts = written_in c.args.text.now in
    let is : option_copied c.parts.rest ≡ Some c.in-Some.more.now = ap option_copied c.in-Some.is in
    let fault = c.in_err-push_next.field-0.0 in
    let p = err_from_is_err_and c.from_residual-in_err-push_next.result c.from_residual-in_err-push_next.ensures.1 in
    rw (p.1, p.2) (λ cause.
    read_stops Spells IsWithin texts c.in-Some.more.now c.cut.result.0.now (option_copied c.cut.result.1) c.parts.list fault c.cut.ensures
    (subst (λ (rest : Option (List ℕ)). IsReadUpTo Spells IsWithin texts (kept_parts (parts_behind 124 rest)) c.parts.list) is c.parts.invariant.read)
    (c.in_err-push_next.ensures.err cause))
