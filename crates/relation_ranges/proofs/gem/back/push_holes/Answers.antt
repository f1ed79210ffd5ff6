use Rattle.std.proofs.Common.{◌++◌, ◌∙◌, ap, sym, append-nil}
use Rattle.gem_scheme.specs.Writing.{normal}
use Rattle.relation_ranges.specs.Gem.Operators.{signs_of}
use Rattle.relation_ranges.specs.Steps.Terms.{appended}
use Rattle.relation_ranges.proofs.GemTexts.{short_holes}
use Rattle.relation_ranges.proofs.gem.back.push_holes.Goals as goal

pub returns : goal.returns
returns c =
    sym (append-nil c.gaps.out)
    ∙ ap (λ terms. c.gaps.out ++ appended signs_of normal c.gaps.some terms) (sym (short_holes c.gaps.rest.now c.in_default.len_below)) ∙ c.gaps.invariant
