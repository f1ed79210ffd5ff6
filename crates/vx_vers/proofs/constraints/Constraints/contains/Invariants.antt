use Rattle.std.proofs.Common.{◌≡◌, drop}
use Rattle.vx_vers.specs.Meaning.{meaning}
use Rattle.vx_vers.specs.Steps.Passing.{meaning_from}
use Rattle.vx_vers.proofs.constraints.Constraints.contains.Given as goal

-- the constraints that are left say whether the version is in
abbrev pub invariant-loop-i : goal.invariant-loop-i
invariant-loop-i g l = meaning_from g.S.Scheme.order l.version l.opens l.only_holes (drop l.i l.list) ≡ meaning g.S.Scheme.order l.version l.list
