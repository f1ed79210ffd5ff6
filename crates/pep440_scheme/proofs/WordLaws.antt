-- Words at the front of a text.
use Rattle.std.proofs.Common.{◌≡◌, ◌<◌, ℕ, List, [], ◌∷◌, length, None, refl, arith}
use Rattle.pep440_scheme.specs.Steps.Apart.{after_word}

-- a word that is not empty does not begin a text that is
pub no_letter : (word rest : List ℕ) → 0 < length word → length rest < 1 → after_word word rest ≡ None
unfolding after_word
no_letter [] rest some none = absurd (omega (arith, some))
no_letter (w ∷ word) [] some none = refl
no_letter (w ∷ word) (b ∷ rest) some none = absurd (omega (arith, none))
