use Rattle.std.proofs.Common.{◌≡◌, map}
use Rattle.semver.specs.Identifiers.{comparator_view}
use Rattle.cargo_range.specs.Reading.{forms_of}
use Rattle.cargo_range.specs.Steps.Forms.{HaveForms, with_forms}
use Rattle.cargo_range.proofs.comparators.constructs_of.Given as goal

-- the forms so far, before those of what is left, are the forms of all
abbrev pub invariant-loop-comparator : goal.invariant-loop-comparator
invariant-loop-comparator l = record {
  each : HaveForms (map comparator_view l.comparator-iterator.rest.items);
  whole : with_forms l.all.items (forms_of (map comparator_view l.comparator-iterator.rest.items)) ≡ forms_of (map comparator_view l.fn.comparators.items);
}
