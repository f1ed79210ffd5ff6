-- The parts of the label so far, with those of what is left, are all.
use Rattle.std.proofs.Common.{◌≡◌, ◌++◌, map, true, Some}
use Rattle.std.specs.List.{AllByRecursion, list_all}
use Rattle.std.specs.Option.{option_copied}
use Rattle.pep440_scheme.specs.Spelling.{is_local_text, is_separator, local_of}
use Rattle.pep440_scheme.specs.Version.{IsSmallLocal}
use Rattle.pep440_scheme.specs.Steps.Apart.{option_length, parts_behind}
use Rattle.pep440_scheme.proofs.spelling.locals_of.Given as goal

abbrev pub invariant-parts : goal.invariant-parts
invariant-parts l = record {
  made : l.all ++ map local_of (parts_behind is_separator (option_copied l.rest)) ≡ map local_of (parts_behind is_separator (Some l.fn.label));
  form : list_all is_local_text (parts_behind is_separator (option_copied l.rest)) ≡ true;
  within : AllByRecursion IsSmallLocal l.all;
}

abbrev pub decreases-parts : goal.decreases-parts
decreases-parts l = option_length (option_copied l.rest)
