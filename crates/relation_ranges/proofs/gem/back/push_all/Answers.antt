use Rattle.std.proofs.Common.{◌++◌, ℕ, List, ◌∙◌, ap, sym}
use Rattle.gem_scheme.specs.Writing.{normal}
use Rattle.relation_ranges.specs.declared.gem.operators.Operator.TheVariants.{Compares}
use Rattle.relation_ranges.specs.Bounds.{bound_terms}
use Rattle.relation_ranges.specs.Gem.Operators.{signs_of}
use Rattle.relation_ranges.specs.Gem.Back.{hole_terms}
use Rattle.relation_ranges.specs.Steps.Terms.{appended, is_any}
use Rattle.relation_ranges.proofs.GemTexts.{bounds_text, several_text}
use Rattle.relation_ranges.proofs.gem.back.push_all.Goals as goal

pub returns-in_ok-push_bounds-in-len2-up : goal.returns-in_ok-push_bounds-in-len2-up
returns-in_ok-push_bounds-in-len2-up c =
    let spans = c.args.spans.now in
    let lower = c.first-item.result.lower in
    let upper = c.last-item.result.upper in
    let holes = appended signs_of normal (is_any (bound_terms Compares lower upper)) (hole_terms spans) in
    let out = c.in_ok-push_bounds-in-len2-up.ensures ∙ ap (λ (t : List ℕ). c.args.out.now ++ t) (bounds_text lower upper) in
    let text = several_text c.args.out.now c.first-item.result c.last-item.result spans c.first-item.is c.last-item.is c.in-len2-up.len_at_least in
    rw (sym (ap (λ (t : List ℕ). t ++ holes) out ∙ text)) (rw c.has_bound.ensures at c.push_holes.ensures)
