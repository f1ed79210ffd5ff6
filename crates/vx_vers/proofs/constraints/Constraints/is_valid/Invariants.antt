use Rattle.std.proofs.Common.{◌≡◌, drop}
use Rattle.vx_vers.specs.Meaning.{kind}
use Rattle.vx_vers.specs.Validity.{is_valid}
use Rattle.vx_vers.proofs.ValidLaws.{valid_from}
use Rattle.vx_vers.proofs.constraints.Constraints.is_valid.Given as goal

-- the constraints that are left say whether the list is valid
abbrev pub invariant-loop-constraint : goal.invariant-loop-constraint
invariant-loop-constraint g l = valid_from kind l.after_equal l.opens (drop l.constraint-index l.constraint-items) ≡ is_valid kind l.constraint-items
