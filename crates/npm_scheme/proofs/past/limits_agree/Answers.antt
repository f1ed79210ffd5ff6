use Rattle.std.proofs.Common.{sym, subst}
use Rattle.npm_scheme.specs.Version.{IsWithin}
use Rattle.npm_scheme.proofs.PastLaws.{none_within, within_none}
use Rattle.npm_scheme.proofs.past.limits_agree.Goals as goal

pub returns-clause-parts : goal.returns-clause-parts
returns-clause-parts c = λ p at form. (within_none p at, none_within p at form)

pub returns-clause-version : goal.returns-clause-version
returns-clause-version c = λ text v at s. (
  λ within. within_none s.parts at (subst IsWithin s.values within),
  λ none. subst IsWithin (sym s.values) (none_within s.parts at s.form none),
)
