use Rattle.npm_scheme.proofs.Apart.{core_dotted, joined_parts, same_parts}
use Rattle.npm_scheme.proofs.spelling.take_apart.Goals as goal

pub returns-in_default : goal.returns-in_default
returns-in_default c = λ p is. c.in_default.ensures p.major p.minor p.patch (core_dotted c.cut_apart.ensures p is)

pub returns-then-has_form : goal.returns-then-has_form
returns-then-has_form c = record {
  joined = joined_parts c.cut_apart.ensures c.in-Some.ensures;
  form = c.has_form.ensures.0 c.if-has_form.true;
}

pub returns-else-has_form : goal.returns-else-has_form
returns-else-has_form c = λ p is.
    let form = c.has_form.ensures.1 (same_parts c.cut_apart.ensures c.in-Some.ensures p is) in
    cc (form, c.if-has_form.false)
