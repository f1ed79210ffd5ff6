-- Texts that are read from left to right as the entries of a list, and the tokens that two schemes read.
use Rattle.std.specs.Prelude.{ℕ, zero, suc, if◌then◌else◌, List, [], ◌∷◌, ◌++◌, length}
use Rattle.std.specs.Char.{is_ascii_alphabetic, is_ascii_digit}
use Rattle.vx_spec.specs.Numerals.{value}
use Rattle.vx_spec.specs.Runs.{run, past}

-- The entries of what stands first in a text, then those of what stands behind it, and so on to its end. There are no more
-- steps than bytes, as is enough where what stands first always has a byte at least.
abbrev pub scanned_in : {E : Type 0} → (List ℕ → List E) → (List ℕ → List ℕ) → ℕ → List ℕ → List E
scanned_in first behind zero text = []
scanned_in first behind (suc most) [] = []
scanned_in first behind (suc most) (b ∷ text) = first (b ∷ text) ++ scanned_in first behind most (behind (b ∷ text))

abbrev pub scanned : {E : Type 0} → (List ℕ → List E) → (List ℕ → List ℕ) → List ℕ → List E
scanned first behind text = scanned_in first behind (length text) text

-- A token is a run of digits, a run of ASCII letters, each as long as it can be, or one other byte. What the token at the
-- front of a text becomes: a number by its value, letters by their bytes, and another byte anything.
abbrev pub token_entries : {E : Type 0} → (ℕ → E) → (List ℕ → E) → (ℕ → List E) → List ℕ → List E
token_entries number word other [] = []
token_entries number word other (b ∷ text) =
    if is_ascii_digit b
    then number (value (run is_ascii_digit (b ∷ text))) ∷ []
    else (if is_ascii_alphabetic b then word (run is_ascii_alphabetic (b ∷ text)) ∷ [] else other b)

-- what stands behind that token
abbrev pub behind_token : List ℕ → List ℕ
behind_token [] = []
behind_token (b ∷ text) =
    if is_ascii_digit b
    then past is_ascii_digit (b ∷ text)
    else (if is_ascii_alphabetic b then past is_ascii_alphabetic (b ∷ text) else text)
