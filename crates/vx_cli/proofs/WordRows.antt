-- Rows of one word and of two.
use Rattle.std.proofs.Common.{◌≢◌, ℕ, List, [], ◌∷◌, refl, Bor}
use Rattle.vx_batch.specs.declared.row.Row.{Row}
use Rattle.vx_batch.specs.declared.row.Row.TheVariants.{One, Two, Three, Four, Other}
use Rattle.vx_batch.specs.Rows.{IsRow}

pub not_one_word : (words : List (List ℕ)) (row : Row) → IsRow words row → ((a : Bor (List ℕ)) → row ≢ One a) → (text : List ℕ) → words ≢ text ∷ []
not_one_word words (One a) is other text e = other a refl
not_one_word words (Two a b) is other text e = cc (is, e)
not_one_word words (Three a b c) is other text e = cc (is, e)
not_one_word words (Four a b c d) is other text e = cc (is, e)
not_one_word words Other is other text e = (is text [] [] []).0 e

pub not_two_words : (words : List (List ℕ)) (row : Row) → IsRow words row → ((a b : Bor (List ℕ)) → row ≢ Two a b) → (name text : List ℕ) → words ≢ name ∷ text ∷ []
not_two_words words (One a) is other name text e = cc (is, e)
not_two_words words (Two a b) is other name text e = other a b refl
not_two_words words (Three a b c) is other name text e = cc (is, e)
not_two_words words (Four a b c d) is other name text e = cc (is, e)
not_two_words words Other is other name text e = (is name text [] []).1 e
