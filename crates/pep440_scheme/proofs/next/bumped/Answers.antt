use Rattle.std.proofs.Common.{sym, ap, ◌∙◌, ◌∷◌, [], ◌++◌, ◌<◌, ◌^◌, ◌-◌, subst, arith, ◌≡◌, Some, ℕ}
use Rattle.std.specs.List.{AllByRecursion}
use Rattle.std.proofs.lemmas.Result.{err_from_is_err_and}
use Rattle.vx_spec.proofs.EachLaws.{each_append}
use Rattle.pep440_scheme.specs.Version.{IsSmall}
use Rattle.pep440_scheme.specs.Next.{IsAtLimit, bumped, last_number}
use Rattle.pep440_scheme.proofs.BumpLaws.{bumped_push, each_front, last_push}
use Rattle.pep440_scheme.proofs.next.bumped.Goals as goal

pub returns-in_err-last-clause-err : goal.returns-in_err-last-clause-err
returns-in_err-last-clause-err c =
    let last : last_number c.args.release ≡ Some c.in-Some.last = ap last_number c.in-Some.ensures ∙ last_push c.pop.new.self c.in-Some.last in
    let p = err_from_is_err_and c.from_residual.result c.from_residual.ensures.1 in
    rw (p.1, p.2, c.in_err-last.ensures.err.0, last) c.in_err-last.ensures.err.1

pub returns-clause-ok : goal.returns-clause-ok
returns-clause-ok c =
    c.in_ok-push.ensures.ok ∙ ap (λ (n : ℕ). c.pop.new.self ++ n ∷ []) c.in_ok-last.ensures.ok.0
    ∙ sym (ap bumped c.in-Some.ensures ∙ bumped_push c.pop.new.self c.in-Some.last)

pub returns-clause-within : goal.returns-clause-within
returns-clause-within c =
    let front = each_front IsSmall c.pop.new.self (c.in-Some.last ∷ []) (subst (AllByRecursion IsSmall) c.in-Some.ensures c.requires.within) in
    subst (AllByRecursion IsSmall) (sym c.in_ok-push.ensures.ok) (each_append IsSmall c.pop.new.self (c.in_ok-last.last ∷ []) front (rw c.in_ok-last.ensures.ok.0 (subst (λ n. n < 2 ^ 128) c.in_ok-last.ensures.ok.0 c.in_ok-last.ensures.ok.1), tt))

pub returns-clause-fits : goal.returns-clause-fits
returns-clause-fits c = λ limit.
    let last : last_number c.args.release ≡ Some c.in-Some.last = ap last_number c.in-Some.ensures ∙ last_push c.pop.new.self c.in-Some.last in
    let top : c.in-Some.last ≡ 2 ^ 128 - 1 = subst IsAtLimit last limit in
    absurd (omega (arith, top, c.in_ok-last.ensures.ok.0, c.in_ok-last.ensures.ok.1))
