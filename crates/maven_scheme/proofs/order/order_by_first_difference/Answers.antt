use Rattle.vx_spec.proofs.RowLaws.{rows_decide}
use Rattle.vx_order.specs.Letters.{letter_cmp, end_letter}
use Rattle.vx_order.proofs.LetterLaws.{letter_total, equal_without_end, equal_by_ended}
use Rattle.maven_scheme.specs.Version.{end_rank}
use Rattle.maven_scheme.proofs.EndLaws.{equal_versions}
use Rattle.maven_scheme.proofs.order.order_by_first_difference.Goals as goal

pub returns-clause-places : goal.returns-clause-places
returns-clause-places c = λ a b. rows_decide letter_cmp letter_total (end_letter end_rank) a.letters b.letters

pub returns-clause-equal : goal.returns-clause-equal
returns-clause-equal c = λ a b. (equal_without_end end_rank a.letters b.letters, equal_by_ended end_rank a.letters b.letters)

pub returns-clause-versions : goal.returns-clause-versions
returns-clause-versions c = equal_versions
