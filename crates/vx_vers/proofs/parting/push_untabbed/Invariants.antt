use Rattle.std.proofs.Common.{◌≡◌, ◌++◌, Some}
use Rattle.std.specs.Option.{option_copied}
use Rattle.vx_vers.proofs.PartLaws.{left, others}
use Rattle.vx_vers.proofs.parting.push_untabbed.Given as goal

abbrev pub invariant-parts : goal.invariant-parts
invariant-parts l = l.out ++ others 9 (option_copied l.rest) ≡ l.fn.out ++ others 9 (Some l.fn.text)

abbrev pub decreases-parts : goal.decreases-parts
decreases-parts l = left (option_copied l.rest)
