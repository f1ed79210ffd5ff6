use Rattle.std.proofs.Common.{ap, sym, ◌∙◌, ◌≡◌, ◌+◌, length, subst, arith}
use Rattle.std.specs.Option.{option_copied}
use Rattle.pep440_scheme.specs.Spelling.{is_separator}
use Rattle.pep440_scheme.specs.Steps.Apart.{option_length, parts_behind}
use Rattle.pep440_scheme.specs.Past.{first_past_part}
use Rattle.pep440_scheme.proofs.PartLaws.{parts_are}
use Rattle.pep440_scheme.proofs.PastLaws.{past_here, passed_over}
use Rattle.pep440_scheme.proofs.past.past_part.Goals as goal

pub returns-then-is_past_numeral : goal.returns-then-is_past_numeral
returns-then-is_past_numeral c =
    let behind = option_copied c.cut_part.result.1 in
    let parts = parts_are is_separator (option_copied c.parts.rest) c.in-Some.more.now c.cut_part.result.0.now behind (ap option_copied c.in-Some.is) c.cut_part.ensures.part c.cut_part.ensures.behind in
    sym (past_here c.parts.from c.cut_part.result.0.now (parts_behind is_separator behind) (sym c.is_past_numeral.ensures ∙ c.if-is_past_numeral.true)) ∙ sym (ap (first_past_part c.parts.from) parts) ∙ c.parts.invariant.found

pub parts-preserved : goal.parts-preserved
parts-preserved c =
    let behind = option_copied c.cut_part.result.1 in
    let parts = parts_are is_separator (option_copied c.parts.rest) c.in-Some.more.now c.cut_part.result.0.now behind (ap option_copied c.in-Some.is) c.cut_part.ensures.part c.cut_part.ensures.behind in
    let left : c.parts.from + (length c.in-Some.more.now + 1) ≡ c.args.at + length c.args.label.now + 1 = subst (λ rest. c.parts.from + option_length rest ≡ c.args.at + length c.args.label.now + 1) (ap option_copied c.in-Some.is) c.parts.invariant.place in
    record {
      found = passed_over c.parts.from c.cut_part.result.0.now (parts_behind is_separator behind) (sym c.is_past_numeral.ensures ∙ c.if-is_past_numeral.false) ∙ sym (ap (first_past_part c.parts.from) parts) ∙ c.parts.invariant.found;
      place = omega (arith, left, c.cut_part.ensures.within);
    }
