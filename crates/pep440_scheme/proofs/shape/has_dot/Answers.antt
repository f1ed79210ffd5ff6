use Rattle.std.proofs.Common.{Some, refl, sym, ap, ◌∙◌, length, nat_le, List, ℕ}
use Rattle.std.specs.Option.{option_copied}
use Rattle.pep440_scheme.specs.Steps.Apart.{is_dot}
use Rattle.pep440_scheme.proofs.PartLaws.{parts_are}
use Rattle.pep440_scheme.proofs.ShapeLaws.{some_copied, two_behind}
use Rattle.pep440_scheme.proofs.shape.has_dot.Goals as goal

pub returns : goal.returns
returns c =
    let behind = option_copied c.cut_part.result.1 in
    let parts = parts_are is_dot (Some c.args.release.now) c.args.release.now c.cut_part.result.0.now behind refl c.cut_part.ensures.part c.cut_part.ensures.behind in
    c.is_some.ensures ∙ sym (ap (λ (all : List (List ℕ)). nat_le 2 (length all)) parts ∙ two_behind c.cut_part.result.0.now behind ∙ some_copied c.cut_part.result.1)
