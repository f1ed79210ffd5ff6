-- Bytes at the ends of a text that are left out.
use Rattle.std.proofs.Common.{◌≡◌, ◌-◌, ◌++◌, ℕ, Bool, true, false, List, [], ◌∷◌, length, reverse, refl, sym, ap, ◌∙◌, arith, length-append, ◌≢◌}
use Rattle.std.specs.List.{list_all, prefix_len, suffix_len}
use Rattle.std.proofs.lemmas.Bool.{and_parts, and_from}
use Rattle.std.proofs.lemmas.List.{length-reverse, reverse-append, reverse-reverse, take_at}
use Rattle.std.proofs.lemmas.List.Folds.{list_all-append}
use Rattle.vx_spec.specs.Runs.{begins, is_blank, past, run, trimmed, without_end}
use Rattle.vx_spec.proofs.RunLaws.{one_run, past_begins, run_all, run_past}

-- the text has a last byte, which passes
abbrev pub ends : (ℕ → Bool) → List ℕ → Bool
ends test [] = false
ends test (b ∷ []) = test b
ends test (b ∷ c ∷ text) = ends test (c ∷ text)

module _ (test : ℕ → Bool) where
  begins_front : (b : ℕ) (xs ys : List ℕ) → begins test xs ≡ false → begins test (b ∷ []) ≡ false → begins test (xs ++ b ∷ []) ≡ false
  begins_front b [] ys none last = last
  begins_front b (x ∷ xs) ys none last = none

  some_front : (xs : List ℕ) (c b : ℕ) → begins test ((xs ++ c ∷ []) ++ b ∷ []) ≡ begins test (xs ++ c ∷ [])
  some_front [] c b = refl
  some_front (x ∷ xs) c b = refl

  begins_reverse : (xs : List ℕ) → begins test (reverse xs) ≡ ends test xs
  begins_reverse [] = refl
  begins_reverse (b ∷ []) = refl
  begins_reverse (b ∷ c ∷ xs) =
      ap (begins test) (reverse-append (b ∷ []) (c ∷ xs))
      ∙ ap (λ (t : List ℕ). begins test (t ++ b ∷ [])) (reverse-append (c ∷ []) xs)
      ∙ some_front (reverse xs) c b ∙ ap (begins test) (sym (reverse-append (c ∷ []) xs)) ∙ begins_reverse (c ∷ xs)

  all_reverse : (xs : List ℕ) → list_all test xs ≡ true → list_all test (reverse xs) ≡ true
  all_reverse [] all = refl
  all_reverse (b ∷ xs) all =
      let a = and_parts (test b) (list_all test xs) all in
      ap (list_all test) (reverse-append (b ∷ []) xs) ∙ list_all-append test (reverse xs) (b ∷ [])
      ∙ and_from (list_all test (reverse xs)) (list_all test (b ∷ [])) (all_reverse xs a.1) (and_from (test b) true a.0 refl)

  prefix_append : (xs ys : List ℕ) → list_all test xs ≡ true → begins test ys ≡ false → prefix_len test (xs ++ ys) ≡ length xs
  prefix_append [] [] all none = refl
  prefix_append [] (y ∷ ys) all none = rw none refl
  prefix_append (x ∷ xs) ys all none =
      let a = and_parts (test x) (list_all test xs) all in
      rw (a.0, prefix_append xs ys a.1 none) (omega arith)

  -- bytes that pass are left out behind one that does not
  pub without_end_append : (xs ys : List ℕ) → list_all test ys ≡ true → ends test xs ≡ false → without_end test (xs ++ ys) ≡ xs
  without_end_append xs ys all none =
      let count : suffix_len test (xs ++ ys) ≡ length (reverse ys) =
      ap (prefix_len test) (reverse-append xs ys) ∙ prefix_append (reverse ys) (reverse xs) (all_reverse ys all) (begins_reverse xs ∙ none) in
      take_at xs ys (length (xs ++ ys) - suffix_len test (xs ++ ys)) (omega (arith, count, length-reverse ys, length-append xs ys))

  -- such bytes are what is left out
  pub end_found : (xs : List ℕ) → (back : List ℕ) × (xs ≡ without_end test xs ++ back) × (list_all test back ≡ true)
  end_found xs =
      let turned = reverse xs in
      let front = reverse (past test turned) in
      let back = reverse (run test turned) in
      let whole : xs ≡ front ++ back = sym (reverse-reverse xs) ∙ ap reverse (run_past test turned) ∙ reverse-append (run test turned) (past test turned) in
      let all = all_reverse (run test turned) (run_all test turned) in
      let last : ends test front ≡ false = sym (begins_reverse front) ∙ ap (begins test) (reverse-reverse (past test turned)) ∙ past_begins test turned in
      let kept : without_end test xs ≡ front = ap (without_end test) whole ∙ without_end_append front back all last in
      (back, whole ∙ ap (λ (t : List ℕ). t ++ back) (sym kept), all)

-- blanks are left out at both ends of a text that has none there
pub trimmed_append : (before core behind : List ℕ) → list_all is_blank before ≡ true → list_all is_blank behind ≡ true → begins is_blank core ≡ false → core ≢ [] → ends is_blank core ≡ false
    → trimmed (before ++ (core ++ behind)) ≡ core
trimmed_append before [] behind front back begin some end = absurd (some refl)
trimmed_append before (b ∷ core) behind front back begin some end =
    ap (without_end is_blank) (one_run is_blank before ((b ∷ core) ++ behind) front begin).1 ∙ without_end_append is_blank (b ∷ core) behind back end
