use Rattle.std.proofs.Common.{◌≡◌}
use Rattle.std.specs.Option.{option_copied}
use Rattle.purl_core.specs.Places.{with_sign}
use Rattle.purl_core.specs.Steps.Placing.{IsWithin, left}
use Rattle.purl_core.proofs.placing.Walk.next_part.Given as goal

abbrev pub invariant-parts : goal.invariant-parts
invariant-parts l = record { within : IsWithin l.self; left : left l.self ≡ left l.fn.self }

abbrev pub decreases-parts : goal.decreases-parts
decreases-parts l = with_sign (option_copied l.self.rest)
