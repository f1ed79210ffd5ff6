-- The identifiers so far, with those of what is left, are all.
use Rattle.std.proofs.Common.{◌≡◌, ◌++◌, map}
use Rattle.std.specs.List.{AllByRecursion}
use Rattle.std.specs.Option.{option_copied}
use Rattle.vx_order.specs.Dotted.{dotted, pieces}
use Rattle.vx_order.specs.Identifiers.{IdentIsWithin, identifier_of}
use Rattle.vx_order.proofs.DottedMaking.{left}
use Rattle.vx_order.proofs.dotted.read_dotted.Given as goal

abbrev pub invariant-pieces : goal.invariant-pieces
invariant-pieces l = record {
  made : l.all ++ map identifier_of (pieces (option_copied l.rest)) ≡ map identifier_of (dotted l.fn.text);
  within : AllByRecursion IdentIsWithin l.all;
}

abbrev pub decreases-pieces : goal.decreases-pieces
decreases-pieces l = left (option_copied l.rest)
