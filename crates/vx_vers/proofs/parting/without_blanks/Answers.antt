use Rattle.std.proofs.Common.{◌≡◌, ◌++◌, ◌∙◌, ap, subst, ℕ, List, Option, Some}
use Rattle.std.specs.Option.{option_copied}
use Rattle.vx_vers.specs.Heads.{solid}
use Rattle.vx_vers.proofs.PartLaws.{solid_behind, solid_more}
use Rattle.vx_vers.proofs.parting.without_blanks.Goals as goal

pub parts-preserved : goal.parts-preserved
parts-preserved c =
    let is : option_copied c.parts.rest ≡ Some c.in-Some.more.now = ap option_copied c.in-Some.is in
    let all = solid c.args.text.now in
    let behind = option_copied c.cut.result.1 in
    ap (λ (out : List ℕ). out ++ solid_behind behind) c.in_ok-push_untabbed.ensures
    ∙ solid_more c.parts.out c.in-Some.more.now c.cut.result.0.now all behind c.cut.ensures
    (subst (λ (rest : Option (List ℕ)). c.parts.out ++ solid_behind rest ≡ all) is c.parts.invariant)
