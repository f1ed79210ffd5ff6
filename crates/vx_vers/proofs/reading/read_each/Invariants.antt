use Rattle.std.proofs.Common.{◌≤◌, ◌+◌, length}
use Rattle.std.specs.Option.{option_copied}
use Rattle.vx_text.proofs.Joins.{parts_behind}
use Rattle.vx_text.specs.Pieces.{kept_parts}
use Rattle.vx_vers.specs.Steps.Reading.{IsReadUpTo, written_in}
use Rattle.vx_vers.proofs.PartLaws.{IsPlainLeft, left}
use Rattle.vx_vers.proofs.reading.read_each.Given as goal

-- the texts so far are read, where all is plain, so is what is left, and no more constraints stand in the list than bytes in front of what is left
abbrev pub invariant-parts : goal.invariant-parts
invariant-parts g l = record {
  read : IsReadUpTo g.S.Scheme.Spells g.S.Scheme.IsWithin (written_in l.fn.text) (kept_parts (parts_behind 124 (option_copied l.rest))) l.list;
  plain : IsPlainLeft l.fn.plain (option_copied l.rest);
  room : length l.list + left (option_copied l.rest) ≤ length l.fn.text + 1;
}

abbrev pub decreases-parts : goal.decreases-parts
decreases-parts g l = left (option_copied l.rest)
