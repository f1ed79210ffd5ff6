use Rattle.std.proofs.Common.{arith, ◌≡◌, Bool, true, false, refl, sym, add-one}
use Rattle.std.proofs.Math.Bool.{beq}
use Rattle.vx_line.proofs.JoinLaws.{right_neutral, right_next}
use Rattle.vx_interval.proofs.line.Line.join_even.Goals as goal

same : (a b : Bool) → beq a b ≡ true → a ≡ b
same true true e = refl
same true false e = absurd (cc)
same false true e = absurd (cc)
same false false e = refl

other : (a b : Bool) → beq a b ≡ false → a ≡ b → ⊥
other true true e n = cc
other true false e n = cc
other false true e n = cc
other false false e n = cc

pub returns-then-inside-both-clause-pieces : goal.returns-then-inside-both-clause-pieces
returns-then-inside-both-clause-pieces g c = sym (right_neutral c.args.both c.args.inside c.args.self.pieces (same c.args.inside c.args.both c.if-inside-both.true))

pub loop-piece-preserved : goal.loop-piece-preserved
loop-piece-preserved g c =
    rw add-one
    (right_next c.args.both c.args.inside (other c.args.inside c.args.both c.if-inside-both.false) c.loop-piece.piece-index c.deref_mut-piece-items.result.now c.loop-piece.piece-items c.piece-item.result
    c.loop-piece.invariant (omega arith) (omega arith))
