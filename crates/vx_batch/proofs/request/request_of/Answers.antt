use Rattle.std.proofs.Common.{◌∙◌}
use Rattle.vx_batch.proofs.RowLaws.{one_field, other_fields}
use Rattle.vx_batch.proofs.request.request_of.Goals as goal

pub returns-in-One : goal.returns-in-One
returns-in-One c = rw c.in-One.is (λ fields row request e. one_field _ request (e ∙ row))

pub returns-in-Other : goal.returns-in-Other
returns-in-Other c = rw c.in-Other.is (λ fields row request e. other_fields fields row request e)
