-- One turn of a merge.
use Rattle.std.proofs.Common.{◌≡◌, Bool, true, false, List, [], ◌∷◌, refl, sym, ap, ◌∙◌, ◌++◌, append-nil, append_assoc}
use Rattle.vx_line.specs.Line.{emit}

-- what is written at a turn stands before what is still to be written
pub emit_more : {C : Type 0} → (out : List C) (x y : Bool) (c : C) (rest : List C) → (out ++ emit x y c []) ++ rest ≡ out ++ emit x y c rest
emit_more out true true c rest = rw append-nil refl
emit_more out false false c rest = rw append-nil refl
emit_more out true false c rest = append_assoc out (c ∷ []) rest
emit_more out false true c rest = append_assoc out (c ∷ []) rest

-- a turn of the loop
pub turn_more : {C : Type 0} → (out new left rest all : List C) (x y : Bool) (c : C) → out ++ left ≡ all → left ≡ emit x y c rest → new ≡ out ++ emit x y c [] → new ++ rest ≡ all
turn_more out new left rest all x y c so_far left_is new_is = ap (λ l. l ++ rest) new_is ∙ emit_more out x y c rest ∙ ap (λ l. out ++ l) (sym left_is) ∙ so_far
