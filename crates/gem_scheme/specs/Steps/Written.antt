-- The parts of a text as the program holds them: the pieces and the labels still joined.
use Rattle.std.specs.Option.{option_copied}
use Rattle.vx_order.specs.Dotted.{pieces}
use Rattle.gem_scheme.specs.Spelling.{Parts}
use Rattle.gem_scheme.specs.declared.spelling.Written.{Written}

-- the parts that the program holds
abbrev pub parts : Written → Parts
parts w = record { number = w.number.now; pieces = pieces (option_copied w.pieces); labels = pieces (option_copied w.labels) }
