-- The entries of the tokens of a text are within their limits exactly where no numeral of the text is past 2^128-1.
use Rattle.std.proofs.Common.{◌≤◌, ◌<◌, ◌^◌, ℕ, zero, suc, List, [], ◌∷◌, length, sym, subst, inl, inr, arith}
use Rattle.std.specs.List.{AllByRecursion}
use Rattle.std.specs.Char.{is_ascii_digit, is_ascii_alphabetic}
use Rattle.std.proofs.lemmas.Bool.{cases_Bool}
use Rattle.vx_spec.specs.Runs.{run, past}
use Rattle.vx_spec.proofs.RunLaws.{run_past, past_begins, run_all}
use Rattle.vx_spec.proofs.EachLaws.{each_append, each_behind}
use Rattle.vx_text.specs.Past.{NonePast}
use Rattle.vx_text.proofs.PastLaws.{no_digit, none_after, none_number, none_word}
use Rattle.vx_order.specs.Scanning.{behind_token, scanned, scanned_in, token_entries}
use Rattle.vx_order.specs.Laws.Scanning.{behind_digits, behind_other, behind_word, each_front, token_number, token_other, token_takes_a_byte, token_word}

-- none is past it behind a token
none_next : (b : ℕ) (text : List ℕ) → NonePast (b ∷ text) → NonePast (behind_token (b ∷ text))
none_next b text none = elim (cases_Bool (is_ascii_digit b)) [
  | inl digit ↦ subst NonePast (sym (behind_digits b text digit)) (none_after is_ascii_digit (b ∷ text) none)
  | inr no_number ↦ elim (cases_Bool (is_ascii_alphabetic b)) [
    | inl letter ↦ subst NonePast (sym (behind_word b text no_number letter)) (none_after is_ascii_alphabetic (b ∷ text) none)
    | inr no_letter ↦ subst NonePast (sym (behind_other b text no_number no_letter)) none.1
  ]
]

module _ {E : Type 0} (IsWithin : E → Type 0) (number : ℕ → E) (word : List ℕ → E) (other : ℕ → List E)
    (number_within : (n : ℕ) → n < 2 ^ 128 → IsWithin (number n))
    (within_number : (n : ℕ) → IsWithin (number n) → n < 2 ^ 128)
    (word_within : (letters : List ℕ) → IsWithin (word letters))
    (other_within : (b : ℕ) → AllByRecursion IsWithin (other b)) where
  token_within : (b : ℕ) (text : List ℕ) → NonePast (b ∷ text) → AllByRecursion IsWithin (token_entries number word other (b ∷ text))
  token_within b text none = elim (cases_Bool (is_ascii_digit b)) [
    | inl digit ↦ subst (AllByRecursion IsWithin) (sym (token_number number word other b text digit)) (number_within _ none.0, tt)
    | inr no_number ↦ elim (cases_Bool (is_ascii_alphabetic b)) [
      | inl letter ↦ subst (AllByRecursion IsWithin) (sym (token_word number word other b text no_number letter)) (word_within _, tt)
      | inr no_letter ↦ subst (AllByRecursion IsWithin) (sym (token_other number word other b text no_number no_letter)) (other_within b)
    ]
  ]

  within_in : (n : ℕ) (text : List ℕ) → NonePast text → AllByRecursion IsWithin (scanned_in (token_entries number word other) behind_token n text)
  within_in zero text none = tt
  within_in (suc n) [] none = tt
  within_in (suc n) (b ∷ text) none =
      each_append IsWithin (token_entries number word other (b ∷ text)) (scanned_in (token_entries number word other) behind_token n (behind_token (b ∷ text)))
      (token_within b text none) (within_in n (behind_token (b ∷ text)) (none_next b text none))

  pub tokens_within : (text : List ℕ) → NonePast text → AllByRecursion IsWithin (scanned (token_entries number word other) behind_token text)
  tokens_within text none = within_in (length text) text none

  -- a token within the limit, with nothing past the limit behind it
  none_here : (b : ℕ) (text : List ℕ) → AllByRecursion IsWithin (token_entries number word other (b ∷ text)) → NonePast (behind_token (b ∷ text)) → NonePast (b ∷ text)
  none_here b text fits rest = elim (cases_Bool (is_ascii_digit b)) [
    | inl digit ↦
        let digits = run is_ascii_digit (b ∷ text) in
        let small = within_number _ (subst (AllByRecursion IsWithin) (token_number number word other b text digit) fits).0 in
        let behind = subst NonePast (behind_digits b text digit) rest in
        subst NonePast (sym (run_past is_ascii_digit (b ∷ text)))
        (none_number digits (past is_ascii_digit (b ∷ text)) (run_all is_ascii_digit (b ∷ text)) (past_begins is_ascii_digit (b ∷ text)) small behind)
    | inr no_number ↦ elim (cases_Bool (is_ascii_alphabetic b)) [
      | inl letter ↦
          let behind = subst NonePast (behind_word b text no_number letter) rest in
          subst NonePast (sym (run_past is_ascii_alphabetic (b ∷ text)))
          (none_word (run is_ascii_alphabetic (b ∷ text)) (past is_ascii_alphabetic (b ∷ text)) (run_all is_ascii_alphabetic (b ∷ text)) behind)
      | inr no_letter ↦ (no_digit b text no_number, subst NonePast (behind_other b text no_number no_letter) rest)
    ]
  ]

  none_in : (n : ℕ) (text : List ℕ) → length text ≤ n → AllByRecursion IsWithin (scanned_in (token_entries number word other) behind_token n text) → NonePast text
  none_in zero [] size all = tt
  none_in zero (b ∷ text) size all = absurd (omega (arith, size))
  none_in (suc n) [] size all = tt
  none_in (suc n) (b ∷ text) size all =
      let first = token_entries number word other (b ∷ text) in
      let behind = behind_token (b ∷ text) in
      let more = scanned_in (token_entries number word other) behind_token n behind in
      none_here b text (each_front IsWithin first more all) (none_in n behind (omega (arith, token_takes_a_byte b text, size)) (each_behind IsWithin first more all))

  pub none_tokens : (text : List ℕ) → AllByRecursion IsWithin (scanned (token_entries number word other) behind_token text) → NonePast text
  none_tokens text all = none_in (length text) text (omega arith) all
