-- What is found, and the fields of what is left, are the line's.
use Rattle.std.proofs.Common.{◌≡◌, ◌+◌, ◌++◌, ℕ, List, Option, Some, None, length}
use Rattle.std.specs.Option.{option_copied}
use Rattle.vx_text.proofs.Joins.{parts_behind}
use Rattle.vx_batch.specs.Fields.{fields_of_line, tab}
use Rattle.vx_batch.proofs.fields.split.Given as goal

-- how many bytes what is left has, with its tab
abbrev pub left : Option (List ℕ) → ℕ
left None = 0
left (Some text) = length text + 1

abbrev pub invariant-fields : goal.invariant-fields
invariant-fields l = l.fields ++ parts_behind tab (option_copied l.rest) ≡ fields_of_line l.line

abbrev pub decreases-fields : goal.decreases-fields
decreases-fields l = left (option_copied l.rest)
