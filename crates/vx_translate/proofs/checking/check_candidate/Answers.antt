use Rattle.std.proofs.Common.{sym, subst}
use Rattle.vx_translate.specs.Checking.{HasCandidate}
use Rattle.vx_translate.proofs.CheckLaws.{bad_candidate}
use Rattle.vx_translate.proofs.checking.check_candidate.Goals as goal

pub returns-clause-err : goal.returns-clause-err
returns-clause-err g c =
    let given : HasCandidate g.S.Scheme.name c.args.purl.now c.in_ok-version.version = subst (λ name. HasCandidate name c.args.purl.now c.in_ok-version.version) c.scheme.ensures c.in_ok-version.ensures.ok in
    bad_candidate g.S.Scheme c.args.purl.now c.args.vers.now c.in-Ok.list c.as_str.result.now c.in-Err-is_held.refusal c.from-in-Err-is_held.result c.from-in-Err-is_held.ensures c.in-Ok.ensures.ok
    (subst (λ text. HasCandidate g.S.Scheme.name c.args.purl.now text) (sym c.as_str.ensures) given) c.in-Err-is_held.ensures.err
