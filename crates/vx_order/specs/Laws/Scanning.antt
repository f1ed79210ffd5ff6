-- Scanned texts, step by step, and their tokens.
use Rattle.std.proofs.Common.{◌≡◌, ◌≢◌, ◌≤◌, ◌<◌, ◌++◌, ℕ, zero, suc, List, [], ◌∷◌, length, true, false, refl, sym, ap, ◌∙◌, subst, append_assoc, inl, inr, arith}
use Rattle.std.specs.List.{AllByRecursion}
use Rattle.std.specs.Char.{is_ascii_digit, is_ascii_alphabetic}
use Rattle.std.proofs.lemmas.Bool.{cases_Bool}
use Rattle.vx_spec.specs.Numerals.{value}
use Rattle.vx_spec.specs.Runs.{run, past}
use Rattle.vx_spec.proofs.RunLaws.{past_less}
use Rattle.vx_spec.proofs.EachLaws.{each_behind}
use Rattle.vx_order.specs.Scanning.{behind_token, scanned, scanned_in, token_entries}

-- the items in front have what all have
pub each_front : {E : Type 0} (P : E → Type 0) (xs ys : List E) → AllByRecursion P (xs ++ ys) → AllByRecursion P xs
each_front P [] ys all = tt
each_front P (x ∷ xs) ys all = (all.0, each_front P xs ys all.1)

module _ {E : Type 0} (first : List ℕ → List E) (behind : List ℕ → List ℕ) (takes_a_byte : (b : ℕ) (text : List ℕ) → length (behind (b ∷ text)) ≤ length text) where
  -- a text needs no more steps than bytes
  enough : (n m : ℕ) (text : List ℕ) → length text ≤ n → length text ≤ m → scanned_in first behind n text ≡ scanned_in first behind m text
  enough zero zero text p q = refl
  enough zero (suc m) [] p q = refl
  enough zero (suc m) (b ∷ text) p q = absurd (omega (arith, p))
  enough (suc n) zero [] p q = refl
  enough (suc n) zero (b ∷ text) p q = absurd (omega (arith, q))
  enough (suc n) (suc m) [] p q = refl
  enough (suc n) (suc m) (b ∷ text) p q =
      let less = takes_a_byte b text in
      ap (λ entries. first (b ∷ text) ++ entries) (enough n m (behind (b ∷ text)) (omega (arith, less, p)) (omega (arith, less, q)))

  -- the entries of what stands first, then those of what stands behind it
  pub scanned_step : (text : List ℕ) → text ≢ [] → scanned first behind text ≡ first text ++ scanned first behind (behind text)
  scanned_step [] some = absurd (some refl)
  scanned_step (b ∷ text) some =
      ap (λ entries. first (b ∷ text) ++ entries)
      (enough (length text) (length (behind (b ∷ text))) (behind (b ∷ text)) (takes_a_byte b text) (omega arith))

  -- the entries of what stands first in the rest have what all have
  pub first_within : (P : E → Type 0) (entries all : List E) (rest : List ℕ) → rest ≢ [] → entries ++ scanned first behind rest ≡ all → AllByRecursion P all → AllByRecursion P (first rest)
  first_within P entries all rest some joined fits =
      let here = each_behind P entries (scanned first behind rest) (subst (AllByRecursion P) (sym joined) fits) in
      each_front P (first rest) (scanned first behind (behind rest)) (subst (AllByRecursion P) (scanned_step rest some) here)

  -- one step more
  pub one_more : (entries all : List E) (rest : List ℕ) → rest ≢ [] → entries ++ scanned first behind rest ≡ all → (entries ++ first rest) ++ scanned first behind (behind rest) ≡ all
  one_more entries all rest some joined =
      append_assoc entries (first rest) (scanned first behind (behind rest)) ∙ ap (λ more. entries ++ more) (sym (scanned_step rest some)) ∙ joined

  pub behind_shorter : (rest : List ℕ) → rest ≢ [] → length (behind rest) < length rest
  behind_shorter [] some = absurd (some refl)
  behind_shorter (b ∷ rest) some = omega (arith, takes_a_byte b rest)

-- ---- tokens

some_byte : (b : ℕ) (text : List ℕ) → ◌≢◌ {A = List ℕ} (b ∷ text) []
some_byte b text e = cc e

-- what stands behind a token, case by case
pub behind_digits : (b : ℕ) (text : List ℕ) → is_ascii_digit b ≡ true → behind_token (b ∷ text) ≡ past is_ascii_digit (b ∷ text)
behind_digits b text digit = rw digit refl

pub behind_word : (b : ℕ) (text : List ℕ) → is_ascii_digit b ≡ false → is_ascii_alphabetic b ≡ true → behind_token (b ∷ text) ≡ past is_ascii_alphabetic (b ∷ text)
behind_word b text no_digit letter = rw (no_digit, letter) refl

pub behind_other : (b : ℕ) (text : List ℕ) → is_ascii_digit b ≡ false → is_ascii_alphabetic b ≡ false → behind_token (b ∷ text) ≡ text
behind_other b text no_digit no_letter = rw (no_digit, no_letter) refl

-- a token has a byte at least
pub token_takes_a_byte : (b : ℕ) (text : List ℕ) → length (behind_token (b ∷ text)) ≤ length text
token_takes_a_byte b text = elim (cases_Bool (is_ascii_digit b)) [
  | inl digit ↦ omega (arith, ap length (behind_digits b text digit), past_less is_ascii_digit b text digit)
  | inr no_digit ↦ elim (cases_Bool (is_ascii_alphabetic b)) [
    | inl letter ↦ omega (arith, ap length (behind_word b text no_digit letter), past_less is_ascii_alphabetic b text letter)
    | inr no_letter ↦ omega (arith, ap length (behind_other b text no_digit no_letter))
  ]
]

-- what a token becomes, case by case
module _ {E : Type 0} (number : ℕ → E) (word : List ℕ → E) (other : ℕ → List E) where
  pub token_number : (b : ℕ) (text : List ℕ) → is_ascii_digit b ≡ true → token_entries number word other (b ∷ text) ≡ number (value (run is_ascii_digit (b ∷ text))) ∷ []
  token_number b text digit = rw digit refl

  pub token_word : (b : ℕ) (text : List ℕ) → is_ascii_digit b ≡ false → is_ascii_alphabetic b ≡ true → token_entries number word other (b ∷ text) ≡ word (run is_ascii_alphabetic (b ∷ text)) ∷ []
  token_word b text no_digit letter = rw (no_digit, letter) refl

  pub token_other : (b : ℕ) (text : List ℕ) → is_ascii_digit b ≡ false → is_ascii_alphabetic b ≡ false → token_entries number word other (b ∷ text) ≡ other b
  token_other b text no_digit no_letter = rw (no_digit, no_letter) refl

  -- and behind it the others
  pub scanned_number : (b : ℕ) (text : List ℕ) → is_ascii_digit b ≡ true
      → scanned (token_entries number word other) behind_token (b ∷ text) ≡ number (value (run is_ascii_digit (b ∷ text))) ∷ scanned (token_entries number word other) behind_token (past is_ascii_digit (b ∷ text))
  scanned_number b text digit =
      scanned_step (token_entries number word other) behind_token token_takes_a_byte (b ∷ text) (some_byte b text)
      ∙ ap (λ entries. entries ++ scanned (token_entries number word other) behind_token (behind_token (b ∷ text))) (token_number b text digit)
      ∙ ap (λ rest. number (value (run is_ascii_digit (b ∷ text))) ∷ scanned (token_entries number word other) behind_token rest) (behind_digits b text digit)

  pub scanned_word : (b : ℕ) (text : List ℕ) → is_ascii_digit b ≡ false → is_ascii_alphabetic b ≡ true
      → scanned (token_entries number word other) behind_token (b ∷ text) ≡ word (run is_ascii_alphabetic (b ∷ text)) ∷ scanned (token_entries number word other) behind_token (past is_ascii_alphabetic (b ∷ text))
  scanned_word b text no_digit letter =
      scanned_step (token_entries number word other) behind_token token_takes_a_byte (b ∷ text) (some_byte b text)
      ∙ ap (λ entries. entries ++ scanned (token_entries number word other) behind_token (behind_token (b ∷ text))) (token_word b text no_digit letter)
      ∙ ap (λ rest. word (run is_ascii_alphabetic (b ∷ text)) ∷ scanned (token_entries number word other) behind_token rest) (behind_word b text no_digit letter)

  pub scanned_other : (b : ℕ) (text : List ℕ) → is_ascii_digit b ≡ false → is_ascii_alphabetic b ≡ false
      → scanned (token_entries number word other) behind_token (b ∷ text) ≡ other b ++ scanned (token_entries number word other) behind_token text
  scanned_other b text no_digit no_letter =
      scanned_step (token_entries number word other) behind_token token_takes_a_byte (b ∷ text) (some_byte b text)
      ∙ ap (λ entries. entries ++ scanned (token_entries number word other) behind_token (behind_token (b ∷ text))) (token_other b text no_digit no_letter)
      ∙ ap (λ rest. other b ++ scanned (token_entries number word other) behind_token rest) (behind_other b text no_digit no_letter)
