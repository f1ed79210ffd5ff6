use Rattle.cargo_range.proofs.EveryForm.{every_form}
use Rattle.cargo_range.proofs.laws.every_comparator_has_a_form.Goals as goal

pub returns : goal.returns
returns c = every_form
