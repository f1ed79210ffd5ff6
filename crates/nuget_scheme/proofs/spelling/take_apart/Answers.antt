use Rattle.std.proofs.Common.{sym, ◌∙◌}
use Rattle.std.specs.Option.{option_copied}
use Rattle.nuget_scheme.proofs.Apart.{cut_parts, form_from, form_to, joined_parts, same_parts}
use Rattle.nuget_scheme.proofs.spelling.take_apart.Goals as goal

pub returns-then-has_form : goal.returns-then-has_form
returns-then-has_form c = record {
  joined = joined_parts c.cut_apart.ensures;
  form = form_from c.cut_apart.result.0.now (option_copied c.cut_apart.result.1) (option_copied c.cut_apart.result.2) (sym c.has_form.ensures ∙ c.if-has_form.true);
}

pub returns-else-has_form : goal.returns-else-has_form
returns-else-has_form c = λ p is.
    let form = form_to (cut_parts c.cut_apart.result.0.now (option_copied c.cut_apart.result.1) (option_copied c.cut_apart.result.2)) (same_parts c.cut_apart.ensures p is) in
    cc (c.has_form.ensures, form, c.if-has_form.false)
