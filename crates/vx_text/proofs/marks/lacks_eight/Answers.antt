-- Eight tests that fail lead eight places further.
use Rattle.std.proofs.Common.{◌≡◌, ◌+◌, eqb, ℕ, false, List, get_or, arith, below_more, subst}
use Rattle.std.proofs.lemmas.Bool.{eqb-false, not-true, or_parts}
use Rattle.vx_text.specs.Steps.Places.{LacksBefore}
use Rattle.vx_text.proofs.marks.lacks_eight.Goals as goal

further : (byte : ℕ) (text : List ℕ) (i j : ℕ) → i + 1 ≡ j → LacksBefore byte text i → eqb (get_or text i 0) byte ≡ false → LacksBefore byte text j
further byte text i j next before fails =
    subst (LacksBefore byte text) next (below_more (λ k. get_or text k 0 ≡ byte → ⊥) i before (eqb-false _ _ fails))

pub returns : goal.returns
returns c none =
    let byte = c.args.mark in
    let text = c.args.text.now in
    let at = c.args.at in
    let h = or_parts _ _ (not-true _ none) in
    let g = or_parts _ _ h.0 in
    let f = or_parts _ _ g.0 in
    let e = or_parts _ _ f.0 in
    let d = or_parts _ _ e.0 in
    let b = or_parts _ _ d.0 in
    let a = or_parts _ _ b.0 in
    further byte text (at + 7) (at + 8) (omega arith)
    (further byte text (at + 6) (at + 7) (omega arith)
    (further byte text (at + 5) (at + 6) (omega arith)
    (further byte text (at + 4) (at + 5) (omega arith)
    (further byte text (at + 3) (at + 4) (omega arith)
    (further byte text (at + 2) (at + 3) (omega arith)
    (further byte text (at + 1) (at + 2) (omega arith)
    (further byte text at (at + 1) (omega arith) c.requires.before a.0) a.1) b.1) d.1) e.1) f.1) g.1) h.1
