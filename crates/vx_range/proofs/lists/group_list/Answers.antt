use Rattle.std.proofs.Common.{◌+◌, ◌++◌, ◌∷◌, [], ◌∙◌, List, ap, map, length, arith}
use Rattle.vx_spec.proofs.EndLaws.{cut_length}
use Rattle.vx_range.specs.Pieces.{all_as_written}
use Rattle.vx_range.specs.Lists.{Plain, pieces_at}
use Rattle.vx_range.proofs.PieceSteps.{groups_from, more_groups, last_groups}
use Rattle.vx_range.proofs.lists.group_list.Goals as goal

pub returns-in_default-clause-groups : goal.returns-in_default-clause-groups
returns-in_default-clause-groups c =
    let cut = rw c.in_default.is at c.cut_bytes.ensures in
    let groups = map all_as_written c.loop-groups.groups in
    c.in_ok-push_group.ensures.groups
    ∙ ap (λ (piece : Plain). groups ++ groups_from c.args.inner (piece ∷ [])) c.piece_of.ensures.piece
    ∙ last_groups c.args.inner 44 c.loop-groups.from c.loop-groups.rest.now _ _ _ cut c.loop-groups.invariant.found

pub loop-groups-preserved : goal.loop-groups-preserved
loop-groups-preserved c =
    let cut = rw c.in-Some.is at c.cut_bytes.ensures in
    let size = cut_length 44 c.loop-groups.rest.now _ _ cut in
    let groups = map all_as_written c.loop-groups.groups in
    let pushed = c.in_ok-push_group.ensures.groups ∙ ap (λ (piece : Plain). groups ++ groups_from c.args.inner (piece ∷ [])) c.piece_of.ensures.piece in record {
      found = ap (λ (g : List (List Plain)). g ++ groups_from c.args.inner (pieces_at 44 (c.loop-groups.from + (length c.cut_bytes.result.0.now + 1)) c.in-Some.more.now)) pushed
          ∙ more_groups c.args.inner 44 c.loop-groups.from c.loop-groups.rest.now _ _ _ _ cut c.loop-groups.invariant.found;
      place = omega (arith, size, c.loop-groups.invariant.place);
      placed = c.in_ok-push_group.ensures.placed;
    }
