use Rattle.std.proofs.Common.{ap, sym, ◌∙◌, Some}
use Rattle.std.specs.Option.{option_copied}
use Rattle.gem_scheme.proofs.SegmentLaws.{last_of_number, last_of_word}
use Rattle.gem_scheme.proofs.steps.last_number.Goals as goal

pub returns-in-Some-Number : goal.returns-in-Some-Number
returns-in-Some-Number c = last_of_number c.args.numbers.now c.in-Some-Number.number (ap Some (sym c.in-Some-Number.field-0-is) ∙ ap option_copied (sym c.in-Some-Number.is) ∙ c.last.ensures.value)

pub returns-in-Some-Word : goal.returns-in-Some-Word
returns-in-Some-Word c = last_of_word c.args.numbers.now _ (ap Some (sym c.in-Some-Word.field-0-is) ∙ ap option_copied (sym c.in-Some-Word.is) ∙ c.last.ensures.value)
