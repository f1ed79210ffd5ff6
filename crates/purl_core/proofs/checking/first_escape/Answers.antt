use Rattle.std.proofs.Common.{Some, subst}
use Rattle.vx_text.specs.Escapes.{IsWhole}
use Rattle.purl_core.specs.Places.{AllPass, IsBrokenAt, IsFirstAt, path_at, pieces_of, placed_parts, placed_whole, subpath_at, values, version_at}
use Rattle.purl_core.specs.Steps.Cutting.{parts}
use Rattle.purl_core.specs.Steps.Reads.{FindsFirst}
use Rattle.purl_core.proofs.Firsts.{finds_behind, first_behind, first_front}
use Rattle.purl_core.proofs.checking.first_escape.Goals as goal

pub returns-in-Some : goal.returns-in-Some
returns-in-Some c =
    let p = parts c.args.raw.now in
    first_front IsWhole IsBrokenAt (placed_parts (path_at p) 47 (Some p.path)) _ c.in-Some.at
    (subst (λ l. IsFirstAt IsWhole IsBrokenAt l c.in-Some.at) c.path_walk.ensures.parts c.in-Some.ensures)

pub returns-in-Some-escape_in_part : goal.returns-in-Some-escape_in_part
returns-in-Some-escape_in_part c =
    let p = parts c.args.raw.now in
    let at = c.in-Some-escape_in_part.at in
    first_behind IsWhole IsBrokenAt (placed_parts (path_at p) 47 (Some p.path)) _ at (subst (AllPass IsWhole) c.path_walk.ensures.parts c.in_default.ensures)
    (first_front IsWhole IsBrokenAt (placed_whole (version_at p) p.version) _ at
    (subst (λ l. IsFirstAt IsWhole IsBrokenAt l at) c.version_part.ensures.part c.in-Some-escape_in_part.ensures))

pub returns-in-Some-escape_in_values : goal.returns-in-Some-escape_in_values
returns-in-Some-escape_in_values c =
    let p = parts c.args.raw.now in
    let at = c.in-Some-escape_in_values.at in
    first_behind IsWhole IsBrokenAt (placed_parts (path_at p) 47 (Some p.path)) _ at (subst (AllPass IsWhole) c.path_walk.ensures.parts c.in_default.ensures)
    (first_behind IsWhole IsBrokenAt (placed_whole (version_at p) p.version) _ at (subst (AllPass IsWhole) c.version_part.ensures.part c.in_default-escape_in_part.ensures)
    (first_front IsWhole IsBrokenAt (values (pieces_of p)) (placed_parts (subpath_at p) 47 p.subpath) at
    (subst (λ l. IsFirstAt IsWhole IsBrokenAt (values l) at) c.pieces_walk.ensures.parts c.in-Some-escape_in_values.ensures)))

pub returns : goal.returns
returns c =
    let p = parts c.args.raw.now in
    let found = c.escape_in_parts-2.result in
    finds_behind IsWhole IsBrokenAt (placed_parts (path_at p) 47 (Some p.path)) _ found (subst (AllPass IsWhole) c.path_walk.ensures.parts c.in_default.ensures)
    (finds_behind IsWhole IsBrokenAt (placed_whole (version_at p) p.version) _ found (subst (AllPass IsWhole) c.version_part.ensures.part c.in_default-escape_in_part.ensures)
    (finds_behind IsWhole IsBrokenAt (values (pieces_of p)) (placed_parts (subpath_at p) 47 p.subpath) found
    (subst (λ l. AllPass IsWhole (values l)) c.pieces_walk.ensures.parts c.in_default-escape_in_values.ensures)
    (subst (λ l. FindsFirst IsWhole IsBrokenAt l found) c.subpath_walk.ensures.parts c.escape_in_parts-2.ensures)))
