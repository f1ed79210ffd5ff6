-- A pass over a list from the left that moves what stays to the front.
use Rattle.std.proofs.Common.{◌≡◌, ◌<◌, ◌≤◌, ◌+◌, ℕ, zero, suc, Bool, true, false, cond, List, [], ◌∷◌, ◌++◌, length, get_or, set, take, drop, refl, sym, ap, ◌∙◌, inl, inr, arith, append_assoc, append-nil}
use Rattle.std.specs.List.{swap}
use Rattle.std.proofs.lemmas.Bool.{cases_lt}
use Rattle.std.proofs.lemmas.List.{set-get_or, drop_all, drop_more, drop-set-lt, take-set, take-set-le, take_more_set, length-set}
use Rattle.vx_vers.specs.Meaning.{Kind, opens_next, closes_here, closes_first}
use Rattle.vx_simplify.specs.Simplified.{is_dropped, simplified}
use Rattle.vx_simplify.proofs.Dropping.{kept, simplified-kept}

module _ {C : Type 0} where
  any_default : (xs : List C) (i : ℕ) (c d : C) → i < length xs → get_or xs i c ≡ get_or xs i d
  any_default [] i c d less = absurd (omega arith)
  any_default (x ∷ xs) zero c d less = refl
  any_default (x ∷ xs) (suc i) c d less = any_default xs i c d (omega arith)

  -- an item that is swapped with itself
  pub swap_itself : (xs : List C) (i : ℕ) → swap xs i i ≡ xs
  swap_itself [] i = refl
  swap_itself (d ∷ ds) i = ap (λ (ys : List C). set ys i (get_or (d ∷ ds) i d)) (set-get_or (d ∷ ds) i d) ∙ set-get_or (d ∷ ds) i d

  -- an item that is put at a lower place, or at its own
  put_lower : (xs : List C) (a b : ℕ) (u v : C) → a ≤ b → b < length xs → (a ≡ b → u ≡ v) → take (a + 1) (set (set xs a u) b v) ≡ take a xs ++ u ∷ []
  put_lower xs a b u v low high same = elim (cases_lt a b) [
    | inl less ↦ take-set-le (a + 1) (set xs a u) b v (omega arith) ∙ take_more_set xs a u (omega arith)
    | inr most ↦
        let e : b ≡ a = omega arith in
        ap (λ (k : ℕ). take (a + 1) (set (set xs a u) k v)) e
        ∙ take_more_set (set xs a u) a v (omega (arith, length-set xs a u))
        ∙ (λ j. take-set xs a u j ++ sym (same (sym e)) j ∷ [])
  ]

  put_behind : (xs : List C) (a b : ℕ) (u v : C) → a ≤ b → drop (b + 1) (set (set xs a u) b v) ≡ drop (b + 1) xs
  put_behind xs a b u v low = drop-set-lt (b + 1) (set xs a u) b v (omega arith) ∙ drop-set-lt (b + 1) xs a u (omega arith)

  pub swapped_front : (xs ys : List C) (a b : ℕ) (c : C) → a ≤ b → b < length xs → ys ≡ swap xs a b → c ≡ get_or xs b c → take (a + 1) ys ≡ take a xs ++ c ∷ []
  swapped_front [] ys a b c low high e is = absurd (omega arith)
  swapped_front (d ∷ ds) ys a b c low high e is =
      let xs = d ∷ ds in
      let u = get_or xs b d in
      ap (take (a + 1)) e
      ∙ put_lower xs a b u (get_or xs a d) low high (λ s. ap (λ (k : ℕ). get_or xs k d) (sym s))
      ∙ ap (λ (x : C). take a xs ++ x ∷ []) (any_default xs b d c high ∙ sym is)

  pub swapped_behind : (xs ys : List C) (a b : ℕ) → a ≤ b → b < length xs → ys ≡ swap xs a b → drop (b + 1) ys ≡ drop (b + 1) xs
  swapped_behind [] ys a b low high e = absurd (omega arith)
  swapped_behind (d ∷ ds) ys a b low high e = ap (drop (b + 1)) e ∙ put_behind (d ∷ ds) a b (get_or (d ∷ ds) b d) (get_or (d ∷ ds) a d) low

  pub split_at : (xs : List C) (i : ℕ) (c : C) → i < length xs → c ≡ get_or xs i c → drop i xs ≡ c ∷ drop (i + 1) xs
  split_at xs i c less is = drop_more xs i c less ∙ ap (λ d. d ∷ drop (i + 1) xs) (sym is)

module _ {C : Type 0} (kind : C → Kind) where
  -- at the end of the pass
  pub all_kept : (ks list whole : List C) (p : Bool) (i : ℕ) → length list ≤ i → ks ++ kept kind p false (drop i list) ≡ kept kind false false whole → ks ≡ simplified kind whole
  all_kept ks list whole p i most e = sym (append-nil ks) ∙ ap (λ w. ks ++ kept kind p false w) (sym (drop_all i list most)) ∙ e ∙ sym (simplified-kept kind whole)

  -- whether the first range constraint of what is left closes
  pub closes_on : (xs : List C) (i : ℕ) (c : C) (closes : Bool) → i < length xs → c ≡ get_or xs i c → closes ≡ closes_first kind (drop i xs) false → closes ≡ closes_here (kind c) (closes_first kind (drop (i + 1) xs) false)
  closes_on xs i c closes less is e = e ∙ ap (λ w. closes_first kind w false) (split_at xs i c less is)

  kept_on : (xs : List C) (i : ℕ) (c : C) (p dropped : Bool) → i < length xs → c ≡ get_or xs i c → dropped ≡ is_dropped p (kind c) (closes_first kind (drop (i + 1) xs) false)
      → kept kind p false (drop i xs) ≡ cond dropped (kept kind (opens_next p (kind c)) false (drop (i + 1) xs)) (c ∷ kept kind (opens_next p (kind c)) false (drop (i + 1) xs))
  kept_on xs i c p dropped less is test =
      let later = kept kind (opens_next p (kind c)) false (drop (i + 1) xs) in
      ap (kept kind p false) (split_at xs i c less is) ∙ ap (λ b. cond b later (c ∷ later)) (sym test)

  -- one constraint that is dropped
  pub one_dropped : (xs whole : List C) (count i : ℕ) (c : C) (p dropped : Bool) → i < length xs → c ≡ get_or xs i c → dropped ≡ is_dropped p (kind c) (closes_first kind (drop (i + 1) xs) false) → dropped ≡ true
      → take count xs ++ kept kind p false (drop i xs) ≡ whole → take count xs ++ kept kind (opens_next p (kind c)) false (drop (i + 1) xs) ≡ whole
  one_dropped xs whole count i c p dropped less is test t e =
      let later = kept kind (opens_next p (kind c)) false (drop (i + 1) xs) in
      sym (ap (λ w. take count xs ++ w) (kept_on xs i c p dropped less is test ∙ ap (λ b. cond b later (c ∷ later)) t)) ∙ e

  -- one that stays
  pub one_kept : (xs ys whole : List C) (count i : ℕ) (c : C) (p dropped : Bool) → i < length xs → count ≤ i → c ≡ get_or xs i c → dropped ≡ is_dropped p (kind c) (closes_first kind (drop (i + 1) xs) false) → dropped ≡ false
      → ys ≡ swap xs count i → take count xs ++ kept kind p false (drop i xs) ≡ whole → take (count + 1) ys ++ kept kind (opens_next p (kind c)) false (drop (i + 1) ys) ≡ whole
  one_kept xs ys whole count i c p dropped less low is test t moved e =
      let later = kept kind (opens_next p (kind c)) false (drop (i + 1) xs) in
      (λ j. swapped_front xs ys count i c low less moved is j ++ kept kind (opens_next p (kind c)) false (swapped_behind xs ys count i low less moved j))
      ∙ append_assoc (take count xs) (c ∷ []) later
      ∙ sym (ap (λ w. take count xs ++ w) (kept_on xs i c p dropped less is test ∙ ap (λ b. cond b later (c ∷ later)) t)) ∙ e
