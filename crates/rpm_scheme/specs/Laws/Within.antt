-- The letters of runs of letters and of other bytes are within the limit.
use Rattle.std.proofs.Common.{eqb, ℕ, List, inl, inr, arith}
use Rattle.std.specs.List.{AllByRecursion}
use Rattle.std.proofs.lemmas.Bool.{cases_Bool}
use Rattle.vx_spec.specs.Signs.{caret, tilde}
use Rattle.vx_order.specs.Letters.{LetterIsWithin}
use Rattle.rpm_scheme.specs.Version.{sign_letters, word_letter}

pub word_within : (letters : List ℕ) → LetterIsWithin (word_letter letters)
word_within letters = omega arith

pub sign_within : (b : ℕ) → AllByRecursion LetterIsWithin (sign_letters b)
sign_within b = elim (cases_Bool (eqb b tilde)) [
  | inl is ↦ rw is (omega arith, tt)
  | inr other ↦ elim (cases_Bool (eqb b caret)) [
    | inl is ↦ rw (other, is) (omega arith, tt)
    | inr neither ↦ rw (other, neither) tt
  ]
]
