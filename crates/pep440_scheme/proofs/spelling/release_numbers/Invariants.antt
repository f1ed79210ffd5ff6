-- The numbers so far, with those of what is left, are all.
use Rattle.std.proofs.Common.{◌≡◌, ◌++◌, map, true, Some}
use Rattle.std.specs.List.{AllByRecursion, list_all}
use Rattle.std.specs.Option.{option_copied}
use Rattle.vx_spec.specs.Numerals.{is_numeral, value}
use Rattle.pep440_scheme.specs.Version.{IsSmall}
use Rattle.pep440_scheme.specs.Steps.Apart.{is_dot, option_length, parts_behind}
use Rattle.pep440_scheme.proofs.spelling.release_numbers.Given as goal

abbrev pub invariant-parts : goal.invariant-parts
invariant-parts l = record {
  made : l.numbers ++ map value (parts_behind is_dot (option_copied l.rest)) ≡ map value (parts_behind is_dot (Some l.fn.text));
  form : list_all is_numeral (parts_behind is_dot (option_copied l.rest)) ≡ true;
  within : AllByRecursion IsSmall l.numbers;
}

abbrev pub decreases-parts : goal.decreases-parts
decreases-parts l = option_length (option_copied l.rest)
