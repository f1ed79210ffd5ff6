-- Why a text is refused.
use Rattle.std.proofs.Common.{◌≡◌, ℕ, List, Option, Some, None, sym, ◌∙◌}
use Rattle.purl_core.specs.Cuts.{IsVersionCut}
use Rattle.purl_core.specs.Grammar.{IsEnded, HasScheme, HasType, HasSegment, Parts, IsPurlWritten, WithScheme, WithType}
use Rattle.purl_core.proofs.Cuts.{one_version_cut}
use Rattle.purl_core.proofs.PartLaws.{one_ended, one_scheme, one_type}

pub no_scheme : {text body : List ℕ} {q s : Option (List ℕ)} → IsEnded text body q s → ((scheme rest : List ℕ) → ¬ (HasScheme body scheme rest)) → ¬ (WithScheme text)
no_scheme ended none w = let e = one_ended ended w.ended in none w.scheme w.rest (rw (← e.0) at w.scheme_is)

pub no_type : {text body scheme rest : List ℕ} {q s : Option (List ℕ)} → IsEnded text body q s → HasScheme body scheme rest
    → ((slashes kind : List ℕ) (behind : Option (List ℕ)) → ¬ (HasType rest slashes kind behind)) → ¬ (WithType text)
no_type ended is none w =
    let e = one_ended ended w.ended in
    let f = one_scheme is (rw (← e.0) at w.scheme_is) in
    none w.slashes w.kind w.behind (rw (← f.1) at w.type_is)

-- what stands behind the type is what stands there in a text that is written
behind_is : {text body scheme rest slashes kind : List ℕ} {q s behind : Option (List ℕ)} → IsEnded text body q s → HasScheme body scheme rest
    → HasType rest slashes kind behind → (p : Parts) → (w : IsPurlWritten text p) → behind ≡ Some w.behind
behind_is ended is type p w =
    let e = one_ended ended w.ended in
    let f = one_scheme is (rw (← e.0) at w.scheme_is) in
    (one_type type (rw (← f.1) at w.type_is)).2

pub no_behind : {text body scheme rest slashes kind : List ℕ} {q s : Option (List ℕ)} → IsEnded text body q s → HasScheme body scheme rest
    → HasType rest slashes kind None → (p : Parts) → ¬ (IsPurlWritten text p)
no_behind ended is type p w = let e = behind_is ended is type p w in cc e

pub no_segment : {text body scheme rest slashes kind behind path : List ℕ} {q s version : Option (List ℕ)} → IsEnded text body q s → HasScheme body scheme rest
    → HasType rest slashes kind (Some behind) → IsVersionCut behind path version → ¬ (HasSegment path) → (p : Parts) → ¬ (IsPurlWritten text p)
no_segment {text} {body} {scheme} {rest} {slashes} {kind} {behind} {path} {q} {s} {version} ended is type cut none p w =
    let b = behind_is ended is type p w in
    let e : behind ≡ w.behind = cc b in
    let f = one_version_cut 47 path p.path version p.version cut.counts w.version_cut.counts (sym cut.joined ∙ e ∙ w.version_cut.joined) in
    none (rw (← f.0) at w.segment)
