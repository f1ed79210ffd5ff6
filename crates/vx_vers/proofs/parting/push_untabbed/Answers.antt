use Rattle.std.proofs.Common.{◌≡◌, ◌++◌, ◌∙◌, ap, subst, ℕ, List, Option, Some}
use Rattle.std.specs.Option.{option_copied}
use Rattle.vx_vers.proofs.PartLaws.{others, others_more}
use Rattle.vx_vers.proofs.parting.push_untabbed.Goals as goal

pub parts-preserved : goal.parts-preserved
parts-preserved c =
    let is : option_copied c.parts.rest ≡ Some c.in-Some.more.now = ap option_copied c.in-Some.is in
    let all = c.args.out.now ++ others 9 (Some c.args.text.now) in
    let behind = option_copied c.cut.result.1 in
    ap (λ (out : List ℕ). out ++ others 9 behind) c.in_ok-push_str.ensures.ok
    ∙ others_more 9 c.parts.out c.in-Some.more.now c.cut.result.0.now all behind c.cut.ensures
    (subst (λ (rest : Option (List ℕ)). c.parts.out ++ others 9 rest ≡ all) is c.parts.invariant)
