use Rattle.std.proofs.Common.{◌≡◌, ◌++◌, Some}
use Rattle.std.specs.Option.{option_copied}
use Rattle.vx_vers.proofs.PartLaws.{left, solid_behind}
use Rattle.vx_vers.proofs.parting.without_blanks.Given as goal

abbrev pub invariant-parts : goal.invariant-parts
invariant-parts l = l.out ++ solid_behind (option_copied l.rest) ≡ solid_behind (Some l.fn.text)

abbrev pub decreases-parts : goal.decreases-parts
decreases-parts l = left (option_copied l.rest)
