use Rattle.std.proofs.Common.{◌≢◌, ◌++◌, List, ℕ, Some, [], append-nil, subst, sym}
use Rattle.std.proofs.lemmas.Result.{err_from_is_err_and}
use Rattle.purl_core.specs.Grammar.{Parts}
use Rattle.purl_core.specs.Places.{AllText, IsOtherAt, IsText, components, path_at, pieces_of, placed_parts, placed_whole, subpath_at, values, version_at}
use Rattle.purl_core.specs.Steps.Cutting.{parts}
use Rattle.purl_core.specs.Steps.Reads.{IsTextFault}
use Rattle.purl_core.proofs.Assembled.{some_part}
use Rattle.purl_core.proofs.Decoded.{fault_next}
use Rattle.purl_core.proofs.Firsts.{Goes, goes_all, goes_past}
use Rattle.purl_core.proofs.reading.read_texts.Goals as goal

abbrev path_of : Parts → List (ℕ × List ℕ)
path_of p = placed_parts (path_at p) 47 (Some p.path)

abbrev version_of : Parts → List (ℕ × List ℕ)
version_of p = placed_whole (version_at p) p.version

abbrev subpath_of : Parts → List (ℕ × List ℕ)
subpath_of p = placed_parts (subpath_at p) 47 p.subpath

behind_path : (p : Parts) → AllText (path_of p) → Goes IsText IsOtherAt (components p) (version_of p ++ (values (pieces_of p) ++ subpath_of p))
behind_path p path = goes_past IsText IsOtherAt (components p) (path_of p) _ path (goes_all IsText IsOtherAt (components p))

behind_version : (p : Parts) → AllText (path_of p) → AllText (version_of p) → Goes IsText IsOtherAt (components p) (values (pieces_of p) ++ subpath_of p)
behind_version p path version = goes_past IsText IsOtherAt (components p) (version_of p) _ version (behind_path p path)

behind_values : (p : Parts) → AllText (path_of p) → AllText (version_of p) → AllText (values (pieces_of p)) → Goes IsText IsOtherAt (components p) (subpath_of p)
behind_values p path version pieces = goes_past IsText IsOtherAt (components p) (values (pieces_of p)) (subpath_of p) pieces (behind_version p path version)

pub read_path-requires-clause-some : goal.read_path-requires-clause-some
read_path-requires-clause-some c = subst (λ l. l ≢ []) (sym c.path_walk.ensures.parts) (some_part (parts c.args.raw.now) c.requires.segment)

pub returns-in_err-namespace : goal.returns-in_err-namespace
returns-in_err-namespace c =
    let p = parts c.args.raw.now in
    let e = c.in_err-namespace.field-0.0 in
    let exit = err_from_is_err_and c.from_residual.result c.from_residual.ensures.1 in
    rw (exit.1, exit.2)
    (fault_next (components p) (path_of p) _ e (subst (λ l. IsTextFault l e) c.path_walk.ensures.parts c.in_err-namespace.ensures) (goes_all IsText IsOtherAt (components p)))

pub returns-in_err-version : goal.returns-in_err-version
returns-in_err-version c =
    let p = parts c.args.raw.now in
    let e = c.in_err-version.field-0.0 in
    let exit = err_from_is_err_and c.from_residual-in_err-version.result c.from_residual-in_err-version.ensures.1 in
    rw (exit.1, exit.2)
    (fault_next (components p) (version_of p) _ e (subst (λ l. IsTextFault l e) c.version_part.ensures.part c.in_err-version.ensures)
    (behind_path p (subst AllText c.path_walk.ensures.parts c.in_ok-namespace.ensures.0)))

pub returns-in_err-found : goal.returns-in_err-found
returns-in_err-found c =
    let p = parts c.args.raw.now in
    let e = c.in_err-found.field-0.0 in
    let exit = err_from_is_err_and c.from_residual-in_err-found.result c.from_residual-in_err-found.ensures.1 in
    rw (exit.1, exit.2)
    (fault_next (components p) (values (pieces_of p)) (subpath_of p) e (subst (λ l. IsTextFault (values l) e) c.pieces_walk.ensures.parts c.in_err-found.ensures)
    (behind_version p (subst AllText c.path_walk.ensures.parts c.in_ok-namespace.ensures.0) (subst AllText c.version_part.ensures.part c.in_ok-version.ensures.0)))

pub returns-in_err-subpath : goal.returns-in_err-subpath
returns-in_err-subpath c =
    let p = parts c.args.raw.now in
    let e = c.in_err-subpath.field-0.0 in
    let exit = err_from_is_err_and c.from_residual-in_err-subpath.result c.from_residual-in_err-subpath.ensures.1 in
    let pieces = subst (λ l. AllText (values l)) c.pieces_walk.ensures.parts c.in_ok-found.ensures.0 in
    let left = behind_values p (subst AllText c.path_walk.ensures.parts c.in_ok-namespace.ensures.0) (subst AllText c.version_part.ensures.part c.in_ok-version.ensures.0) pieces in
    let fault = subst (λ l. IsTextFault l e) c.subpath_walk.ensures.parts c.in_err-subpath.ensures in
    rw (exit.1, exit.2) (fault_next (components p) (subpath_of p) [] e fault (subst (Goes IsText IsOtherAt (components p)) (sym (append-nil (subpath_of p))) left))
