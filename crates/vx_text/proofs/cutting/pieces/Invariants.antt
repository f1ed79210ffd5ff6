use Rattle.std.proofs.Common.{◌≡◌, ◌+◌, ◌++◌, length, ℕ, List, Option, Some, None}
use Rattle.std.specs.Option.{option_copied}
use Rattle.vx_text.specs.Pieces.{places}
use Rattle.vx_text.proofs.Joins.{parts_behind}
use Rattle.vx_text.proofs.cutting.pieces.Given as goal

-- how many bytes what is left has, with its separator
abbrev pub left : Option (List ℕ) → ℕ
left None = 0
left (Some text) = length text + 1

abbrev pub invariant-parts : goal.invariant-parts
invariant-parts l = record {
  found : l.found ++ places l.at (parts_behind l.separator (option_copied l.rest)) ≡ places 0 (parts_behind l.separator (Some l.fn.text));
  bytes : l.at + left (option_copied l.rest) ≡ length l.fn.text + 1;
}

abbrev pub decreases-parts : goal.decreases-parts
decreases-parts l = left (option_copied l.rest)
