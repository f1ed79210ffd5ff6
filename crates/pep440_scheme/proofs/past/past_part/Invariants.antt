-- What is looked for among all parts is looked for among those that are left.
use Rattle.std.proofs.Common.{◌≡◌, ◌+◌, length, Some}
use Rattle.std.specs.Option.{option_copied}
use Rattle.pep440_scheme.specs.Spelling.{is_separator}
use Rattle.pep440_scheme.specs.Steps.Apart.{option_length, parts_behind}
use Rattle.pep440_scheme.specs.Past.{first_past_part}
use Rattle.pep440_scheme.proofs.past.past_part.Given as goal

abbrev pub invariant-parts : goal.invariant-parts
invariant-parts l = record {
  found : first_past_part l.from (parts_behind is_separator (option_copied l.rest)) ≡ first_past_part l.fn.at (parts_behind is_separator (Some l.fn.label));
  place : l.from + option_length (option_copied l.rest) ≡ l.fn.at + length l.fn.label + 1;
}

abbrev pub decreases-parts : goal.decreases-parts
decreases-parts l = option_length (option_copied l.rest)
