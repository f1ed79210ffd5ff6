use Rattle.std.proofs.Common.{◌≡◌, drop, false}
use Rattle.vx_vers.specs.Meaning.{kind, closes_first}
use Rattle.vx_simplify.proofs.closing.closes_at_first.Given as goal

abbrev pub invariant-loop-constraint : goal.invariant-loop-constraint
invariant-loop-constraint g l = closes_first kind (drop l.constraint-index l.list) false ≡ closes_first kind l.list false
