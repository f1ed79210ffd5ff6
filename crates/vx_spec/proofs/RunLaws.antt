-- Maximal runs: that `run` and `past` are the maximal run of a text and the rest, and the only ones.
use Rattle.std.proofs.Common.{◌≡◌, ◌≤◌, ◌<◌, ◌++◌, ℕ, suc, List, [], ◌∷◌, length, Bool, true, false, refl, ap, inl, inr, arith}
use Rattle.std.specs.List.{list_all, prefix_len}
use Rattle.std.proofs.lemmas.Bool.{cases_Bool, and_parts, and_from}
use Rattle.std.proofs.lemmas.List.{take_at, drop_at}
use Rattle.vx_spec.specs.Runs.{begins, run, past}

prefix_step : (test : ℕ → Bool) (b : ℕ) (text : List ℕ) → test b ≡ true → prefix_len test (b ∷ text) ≡ suc (prefix_len test text)
prefix_step test b text is = rw is (omega arith)

pub run_step : (test : ℕ → Bool) (b : ℕ) (text : List ℕ) → test b ≡ true → run test (b ∷ text) ≡ b ∷ run test text
run_step test b text is = rw (prefix_step test b text is) refl

pub past_step : (test : ℕ → Bool) (b : ℕ) (text : List ℕ) → test b ≡ true → past test (b ∷ text) ≡ past test text
past_step test b text is = rw (prefix_step test b text is) refl

pub past_stays : (test : ℕ → Bool) (b : ℕ) (text : List ℕ) → test b ≡ false → past test (b ∷ text) ≡ b ∷ text
past_stays test b text other = rw other refl

pub run_stays : (test : ℕ → Bool) (b : ℕ) (text : List ℕ) → test b ≡ false → run test (b ∷ text) ≡ []
run_stays test b text other = rw other refl

-- the run is of bytes that pass, none follows, and the two are the text
pub run_all : (test : ℕ → Bool) (text : List ℕ) → list_all test (run test text) ≡ true
run_all test [] = refl
run_all test (b ∷ text) = elim (cases_Bool (test b)) [
  | inl is ↦ rw (run_step test b text is) (and_from (test b) (list_all test (run test text)) is (run_all test text))
  | inr other ↦ rw (run_stays test b text other) refl
]

pub past_begins : (test : ℕ → Bool) (text : List ℕ) → begins test (past test text) ≡ false
past_begins test [] = refl
past_begins test (b ∷ text) = elim (cases_Bool (test b)) [
  | inl is ↦ rw (past_step test b text is) (past_begins test text)
  | inr other ↦ rw (past_stays test b text other) other
]

pub run_past : (test : ℕ → Bool) (text : List ℕ) → text ≡ run test text ++ past test text
run_past test [] = refl
run_past test (b ∷ text) = elim (cases_Bool (test b)) [
  | inl is ↦ rw (run_step test b text is, past_step test b text is) (ap (λ (t : List ℕ). b ∷ t) (run_past test text))
  | inr other ↦ rw (run_stays test b text other, past_stays test b text other) refl
]

-- and there is no other such run
prefix_append : (test : ℕ → Bool) (xs ys : List ℕ) → list_all test xs ≡ true → begins test ys ≡ false → prefix_len test (xs ++ ys) ≡ length xs
prefix_append test [] [] all none = refl
prefix_append test [] (y ∷ ys) all none = rw none refl
prefix_append test (x ∷ xs) ys all none =
    let a = and_parts (test x) (list_all test xs) all in
    rw (a.0, prefix_append test xs ys a.1 none) (omega arith)

pub one_run : (test : ℕ → Bool) (xs ys : List ℕ) → list_all test xs ≡ true → begins test ys ≡ false → (run test (xs ++ ys) ≡ xs) × (past test (xs ++ ys) ≡ ys)
one_run test xs ys all none =
    let n = prefix_append test xs ys all none in
    (rw n (take_at xs ys (length xs) refl), rw n (drop_at xs ys (length xs) refl))

pub past_most : (test : ℕ → Bool) (text : List ℕ) → length (past test text) ≤ length text
past_most test [] = omega arith
past_most test (b ∷ text) = elim (cases_Bool (test b)) [
  | inl is ↦ rw (past_step test b text is) (omega (arith, past_most test text))
  | inr other ↦ rw (past_stays test b text other) (omega arith)
]

-- a run that is not empty is taken off
pub past_less : (test : ℕ → Bool) (b : ℕ) (text : List ℕ) → test b ≡ true → length (past test (b ∷ text)) < length (b ∷ text)
past_less test b text is = rw (past_step test b text is) (omega (arith, past_most test text))
