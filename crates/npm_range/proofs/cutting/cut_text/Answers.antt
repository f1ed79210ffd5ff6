use Rattle.std.proofs.Common.{◌≡◌, ◌+◌, ◌∷◌, [], length, map, arith, append_assoc}
use Rattle.std.specs.List.{AllByRecursion}
use Rattle.std.proofs.lemmas.List.{map_push}
use Rattle.vx_spec.proofs.EachLaws.{each_append}
use Rattle.vx_range.specs.Pieces.{all_as_written, IsInPlace}
use Rattle.npm_range.specs.Laws.Cuts.{more}
use Rattle.npm_range.proofs.cutting.cut_text.Goals as goal

pub loop-front-preserved : goal.loop-front-preserved
loop-front-preserved c =
    let groups = map all_as_written c.loop-front.groups in
    let group = all_as_written c.in_ok-group.group in
    let front = c.in-Some.front.now in
    let place : c.loop-front.at + (length front + 2) ≡ c.loop-front.at + length front + 2 = omega arith in record {
      place = omega (arith, c.in-Some.ensures.within, c.loop-front.invariant.place);
      found = λ rest are.
          rw (c.in_ok-push.ensures.ok, map_push all_as_written c.loop-front.groups c.in_ok-group.group, append_assoc groups (group ∷ []) rest)
          (c.loop-front.invariant.found (group ∷ rest)
          (more c.loop-front.at c.loop-front.rest.now front c.in-Some.behind.now group rest c.in-Some.ensures.cut c.in_ok-group.ensures.pieces (rw place at are)));
      placed = rw (c.in_ok-push.ensures.ok, map_push all_as_written c.loop-front.groups c.in_ok-group.group)
          (each_append (AllByRecursion IsInPlace) groups (group ∷ []) c.loop-front.invariant.placed (c.in_ok-group.ensures.placed, tt));
    }
