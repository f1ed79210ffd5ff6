-- The segments of a bump.
use Rattle.std.proofs.Common.{◌≡◌, ◌<◌, ◌≤◌, ◌-◌, ◌+◌, ◌^◌, ◌++◌, ℕ, zero, suc, true, List, [], ◌∷◌, length, take, Some, None, refl, ap, ◌∙◌, subst, arith}
use Rattle.std.specs.List.{AllByRecursion, list_all, prefix_len, slice_get}
use Rattle.vx_spec.proofs.EachLaws.{each_append}
use Rattle.vx_scheme.specs.declared.ident.Ident.{Ident}
use Rattle.vx_scheme.specs.declared.ident.Ident.TheVariants.{Number, Word}
use Rattle.gem_scheme.specs.Version.{IsVersion, SegmentIsWithin, begins_with_number, is_number, is_segment, front, but_last, shortened, last_raised, last_number}

-- ---- the last segment left out

but_last_taken : (n : ℕ) (xs : List Ident) → suc n ≤ length xs → but_last (take (suc n) xs) ≡ take n xs
but_last_taken n [] less = absurd (omega (arith, less))
but_last_taken zero (x ∷ xs) less = refl
but_last_taken (suc n) (x ∷ []) less = absurd (omega (arith, less))
but_last_taken (suc n) (x ∷ y ∷ xs) less = ap (λ rest. x ∷ rest) (but_last_taken n (y ∷ xs) (omega (arith, less)))

one_less : (n : ℕ) → suc n ≡ suc (suc n) - 1
one_less n = omega arith

pub shortened_taken : (n : ℕ) (xs : List Ident) → 1 < n → n ≤ length xs → shortened (take n xs) ≡ take (n - 1) xs
shortened_taken zero xs some less = absurd (omega (arith, some))
shortened_taken (suc zero) xs some less = absurd (omega (arith, some))
shortened_taken (suc (suc n)) [] some less = absurd (omega (arith, less))
shortened_taken (suc (suc n)) (x ∷ []) some less = absurd (omega (arith, less))
shortened_taken (suc (suc n)) (x ∷ y ∷ xs) some less = but_last_taken (suc n) (x ∷ y ∷ xs) less ∙ ap (λ m. take m (x ∷ y ∷ xs)) (one_less n)

but_last_all : (xs : List Ident) → list_all is_number xs ≡ true → list_all is_number (but_last xs) ≡ true
but_last_all [] all = refl
but_last_all (x ∷ []) all = refl
but_last_all (Number n ∷ y ∷ xs) all = but_last_all (y ∷ xs) all
but_last_all (Word w ∷ y ∷ xs) all = cc all

shortened_all : (xs : List Ident) → list_all is_number xs ≡ true → list_all is_number (shortened xs) ≡ true
shortened_all [] all = refl
shortened_all (x ∷ []) all = all
shortened_all (x ∷ y ∷ xs) all = but_last_all (x ∷ y ∷ xs) all

shortened_some : (xs : List Ident) → 0 < length xs → 0 < length (shortened xs)
shortened_some [] some = absurd (omega (arith, some))
shortened_some (x ∷ []) some = omega arith
shortened_some (x ∷ y ∷ xs) some = omega arith

but_last_within : (xs : List Ident) → AllByRecursion SegmentIsWithin xs → AllByRecursion SegmentIsWithin (but_last xs)
but_last_within [] all = tt
but_last_within (x ∷ []) all = tt
but_last_within (x ∷ y ∷ xs) all = (all.0, but_last_within (y ∷ xs) all.1)

shortened_within : (xs : List Ident) → AllByRecursion SegmentIsWithin xs → AllByRecursion SegmentIsWithin (shortened xs)
shortened_within [] all = tt
shortened_within (x ∷ []) all = all
shortened_within (x ∷ y ∷ xs) all = but_last_within (x ∷ y ∷ xs) all

-- ---- the numbers before the first word

front_step : (n : ℕ) (xs : List Ident) → front (Number n ∷ xs) ≡ Number n ∷ front xs
front_step n xs = let step : 1 + prefix_len is_number xs ≡ suc (prefix_len is_number xs) = omega arith in ap (λ k. take k (Number n ∷ xs)) step

pub front_all : (xs : List Ident) → list_all is_number (front xs) ≡ true
front_all [] = refl
front_all (Number n ∷ xs) = ap (list_all is_number) (front_step n xs) ∙ front_all xs
front_all (Word w ∷ xs) = refl

front_some : (xs : List Ident) → begins_with_number xs ≡ true → 0 < length (front xs)
front_some [] first = cc first
front_some (Number n ∷ xs) first = omega (arith, ap length (front_step n xs))
front_some (Word w ∷ xs) first = cc first

taken_within : (n : ℕ) (xs : List Ident) → AllByRecursion SegmentIsWithin xs → AllByRecursion SegmentIsWithin (take n xs)
taken_within zero xs all = tt
taken_within (suc n) [] all = tt
taken_within (suc n) (x ∷ xs) all = (all.0, taken_within n xs all.1)

-- ---- the last number raised

pub last_of_number : (xs : List Ident) (n : ℕ) → Some (Number n) ≡ slice_get xs (length xs - 1) → n ≡ last_number xs
last_of_number [] n at = cc at
last_of_number (Number m ∷ []) n at = cc at
last_of_number (Word w ∷ []) n at = cc at
last_of_number (x ∷ y ∷ xs) n at = last_of_number (y ∷ xs) n (at ∙ ap (slice_get (x ∷ y ∷ xs)) (less (length xs)))
  where
    less : (k : ℕ) → suc (suc k) - 1 ≡ suc (suc k - 1)
    less k = omega arith

pub last_of_word : (xs : List Ident) (w : List ℕ) → Some (Word w) ≡ slice_get xs (length xs - 1) → 0 ≡ last_number xs
last_of_word [] w at = cc at
last_of_word (Number m ∷ []) w at = cc at
last_of_word (Word v ∷ []) w at = refl
last_of_word (x ∷ y ∷ xs) w at = last_of_word (y ∷ xs) w (at ∙ ap (slice_get (x ∷ y ∷ xs)) (less (length xs)))
  where
    less : (k : ℕ) → suc (suc k) - 1 ≡ suc (suc k - 1)
    less k = omega arith

pub last_of_none : (xs : List Ident) → None ≡ slice_get xs (length xs - 1) → 0 ≡ last_number xs
last_of_none [] at = refl
last_of_none (x ∷ []) at = cc at
last_of_none (x ∷ y ∷ xs) at = last_of_none (y ∷ xs) (at ∙ ap (slice_get (x ∷ y ∷ xs)) (less (length xs)))
  where
    less : (k : ℕ) → suc (suc k) - 1 ≡ suc (suc k - 1)
    less k = omega arith

last_made : (xs : List Ident) → 0 < length xs → list_all is_number xs ≡ true → take (length xs - 1) xs ++ Number (last_number xs + 1) ∷ [] ≡ last_raised xs
last_made [] some all = absurd (omega (arith, some))
last_made (Number n ∷ []) some all = refl
last_made (Word w ∷ []) some all = cc all
last_made (Number n ∷ y ∷ xs) some all =
    ap (λ k. take k (Number n ∷ y ∷ xs) ++ Number (last_number (y ∷ xs) + 1) ∷ []) (less (length xs))
    ∙ ap (λ rest. Number n ∷ rest) (last_made (y ∷ xs) (omega arith) all)
  where
    less : (k : ℕ) → suc (suc k) - 1 ≡ suc (suc k - 1)
    less k = omega arith
last_made (Word w ∷ y ∷ xs) some all = cc all

raised_all : (xs : List Ident) → list_all is_number xs ≡ true → list_all is_segment (last_raised xs) ≡ true
raised_all [] all = refl
raised_all (Number n ∷ []) all = refl
raised_all (Word w ∷ []) all = cc all
raised_all (Number n ∷ y ∷ xs) all = raised_all (y ∷ xs) all
raised_all (Word w ∷ y ∷ xs) all = cc all

raised_first : (xs : List Ident) → 0 < length xs → list_all is_number xs ≡ true → begins_with_number (last_raised xs) ≡ true
raised_first [] some all = absurd (omega (arith, some))
raised_first (Number n ∷ []) some all = refl
raised_first (Word w ∷ []) some all = cc all
raised_first (Number n ∷ y ∷ xs) some all = refl
raised_first (Word w ∷ y ∷ xs) some all = cc all

-- ---- a bump

module _ (xs : List Ident) (is : IsVersion (record { segments = xs })) where
  pub series_some : 0 < length (shortened (front xs))
  series_some = shortened_some (front xs) (front_some xs is.first)

  series_all : list_all is_number (shortened (front xs)) ≡ true
  series_all = shortened_all (front xs) (front_all xs)

  pub bump_made : take (length (shortened (front xs)) - 1) (shortened (front xs)) ++ Number (last_number (shortened (front xs)) + 1) ∷ [] ≡ last_raised (shortened (front xs))
  bump_made = last_made (shortened (front xs)) series_some series_all

  pub bump_version : IsVersion (record { segments = last_raised (shortened (front xs)) })
  bump_version = record { first = raised_first (shortened (front xs)) series_some series_all; segments = raised_all (shortened (front xs)) series_all }

  pub bump_within : AllByRecursion SegmentIsWithin xs → last_number (shortened (front xs)) + 1 < 2 ^ 128 → AllByRecursion SegmentIsWithin (last_raised (shortened (front xs)))
  bump_within all small =
      let series = shortened (front xs) in
      subst (AllByRecursion SegmentIsWithin) bump_made
      (each_append SegmentIsWithin (take (length series - 1) series) (Number (last_number series + 1) ∷ [])
      (taken_within (length series - 1) series (shortened_within (front xs) (taken_within (prefix_len is_number xs) xs all))) (small, tt))

  -- what the program makes
  module _ (series : List Ident) (is_series : series ≡ shortened (front xs)) (n : ℕ) (is_last : n ≡ last_number series) where
    pub raised_small : n + 1 < 2 ^ 128 → last_number (shortened (front xs)) + 1 < 2 ^ 128
    raised_small small = subst (λ (s : List Ident). last_number s + 1 < 2 ^ 128) is_series (subst (λ m. m + 1 < 2 ^ 128) is_last small)

    pub made_is : (raised : ℕ) → raised ≡ n + 1 → (made : List Ident) → made ≡ take (length series - 1) series ++ Number raised ∷ [] → made ≡ last_raised (shortened (front xs))
    made_is raised one made is_made = rw (is_made, one, is_last, is_series) bump_made
