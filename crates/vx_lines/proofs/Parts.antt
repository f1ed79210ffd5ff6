-- Fronts of lists, and what the loops of a source or sink do to the bytes that are told.
use Rattle.std.proofs.Common.{◌≡◌, ℕ, ◌-◌, ◌≤◌, List, ◌++◌, length, take, drop, sym, ap, ◌∙◌, append_assoc, take-append-drop}
use Rattle.std.proofs.lemmas.List.{take_rest, drop-append-le}

-- a turn of a loop over a rest moves its first n bytes to what is done
pub moves_front : (all done rest : List ℕ) (n : ℕ) → all ≡ done ++ rest → all ≡ (done ++ take n rest) ++ take (length rest - n) (drop n rest)
moves_front all done rest n e =
    e ∙ ap (λ l. done ++ l) (sym (take-append-drop n rest)) ∙ sym (append_assoc done (take n rest) (drop n rest)) ∙ ap (λ l. (done ++ take n rest) ++ l) (sym (take_rest rest n))

-- what is given of a front is given of the whole
pub given_of_front : (all given : List ℕ) (m n : ℕ) → n ≤ length (take m all) → take m all ≡ given ++ drop n (take m all) → all ≡ given ++ drop n all
given_of_front all given m n h e =
    let back : drop n all ≡ drop n (take m all) ++ drop m all = ap (drop n) (sym (take-append-drop m all)) ∙ drop-append-le n (take m all) (drop m all) h in
    sym (take-append-drop m all) ∙ ap (λ l. l ++ drop m all) e ∙ append_assoc given (drop n (take m all)) (drop m all) ∙ ap (λ l. given ++ l) (sym back)
