-- Simplifying keeps the meaning, and the order.
use Rattle.std.proofs.Common.{◌≡◌, Bool, true, false, ◌&&◌, ◌||◌, cond, List, [], ◌∷◌, ◌++◌, refl, sym, ap, ◌∙◌, inl, inr}
use Rattle.std.specs.declared.cmp.Ordering.{Ordering}
use Rattle.std.specs.declared.cmp.Ordering.TheVariants.{Less, Greater}
use Rattle.std.specs.Ordering.{is_eq}
use Rattle.std.specs.Cmp.{IsTotalOrder}
use Rattle.std.specs.List.{list_all, AllByRecursion}
use Rattle.std.proofs.lemmas.Bool.{cond_both, cases_Bool, or_right, or_left}
use Rattle.vx_vers.specs.declared.constraints.Constraint.{Constraint}
use Rattle.vx_vers.specs.Meaning.{Kind, point, hole, opening, closing, kind, opens_next, opens_last, closes_here, closes_first, is_hole, side, meaning}
use Rattle.vx_vers.specs.Sorted.{IsSorted}
use Rattle.vx_vers.proofs.Sides.{meaning_between, meaning_at_point, meaning_at_hole, level_is, Around, between, at_one, around}
use Rattle.vx_simplify.specs.Simplified.{is_dropped, simplified}
use Rattle.vx_simplify.proofs.Dropping.{Agree, kept, kept-append, simplified-kept, closes_agree, opens_agree}

-- ---- what is kept, over any items with a kind

module _ {C : Type 0} (kind : C → Kind) where
  pub All-kept : (P : C → Type 0) (p n : Bool) (list : List C) → AllByRecursion P list → AllByRecursion P (kept kind p n list)
  All-kept P p n [] h = tt
  All-kept P p n (c ∷ list) h =
      let rest = kept kind (opens_next p (kind c)) n list in
      let i : AllByRecursion P rest = All-kept P (opens_next p (kind c)) n list h.1 in
      cond_both (is_dropped p (kind c) (closes_first kind list n)) rest (c ∷ rest) (λ w. AllByRecursion P w) (λ t. i) (λ t. (h.0, i))

  abbrev pub all_holes : List C → Bool
  all_holes list = list_all (λ c. is_hole (kind c)) list

  no_hole_step : (n : Bool) (c : C) (list : List C) (x : Kind) → (all_holes list ≡ true → closes_first kind list n ≡ n) → (is_hole x && all_holes list) ≡ true → closes_here x (closes_first kind list n) ≡ n
  no_hole_step n c list point i h = cc
  no_hole_step n c list hole i h = i h
  no_hole_step n c list opening i h = cc
  no_hole_step n c list closing i h = cc

  all_holes_close_nothing : (n : Bool) (list : List C) → all_holes list ≡ true → closes_first kind list n ≡ n
  all_holes_close_nothing n [] h = refl
  all_holes_close_nothing n (c ∷ list) h = no_hole_step n c list (kind c) (all_holes_close_nothing n list) h

  not_all_holes : (list : List C) → closes_first kind list false ≡ true → all_holes list ≡ false
  not_all_holes list h = elim (cases_Bool (all_holes list)) [ inl t ↦ let q = all_holes_close_nothing false list t in cc | inr f ↦ f ]

  holes_step : (c : C) (list : List C) (x : Kind) → kind c ≡ x → all_holes (kept kind false false list) ≡ all_holes list → all_holes (cond (is_dropped false x (closes_first kind list false)) (kept kind (opens_next false x) false list) (c ∷ kept kind (opens_next false x) false list)) ≡ (is_hole x && all_holes list)
  holes_step c list point e i = cond_both (closes_first kind list false) (kept kind false false list) (c ∷ kept kind false false list) (λ w. all_holes w ≡ false) (λ t. i ∙ not_all_holes list t) (λ t. rw e refl)
  holes_step c list hole e i = rw e i
  holes_step c list opening e i = rw e refl
  holes_step c list closing e i = cond_both (closes_first kind list false) (kept kind false false list) (c ∷ kept kind false false list) (λ w. all_holes w ≡ false) (λ t. i ∙ not_all_holes list t) (λ t. rw e refl)

  pub all_holes-kept : (list : List C) → all_holes (kept kind false false list) ≡ all_holes list
  all_holes-kept [] = refl
  all_holes-kept (c ∷ list) = holes_step c list (kind c) refl (all_holes-kept list)

-- the two answers that Agree gives say the same of "opens below or closes above"
alike : (o o' c c' : Bool) → Agree o' o c → Agree c' c o → (o' || c') ≡ (o || c)
alike o o' c c' (inl p) (inl q) = λ i. p i || q i
alike o o' c c' (inl p) (inr q) = rw (p, q.1) refl
alike o o' c c' (inr p) (inl q) = or_right o' c' (q ∙ p.1) ∙ sym (or_right o c p.1)
alike o o' c c' (inr p) (inr q) = let a = p.1 in let b = q.0 in cc

module _ {V : Type 0} {R : V → V → Ordering} (o : IsTotalOrder R) (v : V) where
  -- the three cases, each over the parts that are kept
  meaning_between_kept : (xs ys : List (Constraint V)) → AllByRecursion (λ c. side R v c ≡ Less) xs → AllByRecursion (λ c. side R v c ≡ Greater) ys → meaning R v (kept kind false false (xs ++ ys)) ≡ meaning R v (xs ++ ys)
  meaning_between_kept xs ys h g =
      let before = opens_last kind false xs in
      let behind = closes_first kind ys false in
      let xs' = kept kind false behind xs in
      let ys' = kept kind before false ys in
      let cut : kept kind false false (xs ++ ys) ≡ xs' ++ ys' = kept-append kind false false xs ys in
      let a = opens_agree kind false false behind xs (inl refl) in
      let b = closes_agree kind before false ys in
      let holes = ap (all_holes kind) (sym cut) ∙ all_holes-kept kind (xs ++ ys) in
      ap (meaning R v) cut
      ∙ meaning_between R v xs' ys' (All-kept kind (λ c. side R v c ≡ Less) false behind xs h) (All-kept kind (λ c. side R v c ≡ Greater) before false ys g)
      ∙ (λ i. alike before (opens_last kind false xs') behind (closes_first kind ys' false) a b i || holes i)
      ∙ sym (meaning_between R v xs ys h g)

  meaning_point_kept : (xs : List (Constraint V)) (c : Constraint V) (ys : List (Constraint V)) → AllByRecursion (λ c. side R v c ≡ Less) xs → AllByRecursion (λ c. side R v c ≡ Greater) ys → kind c ≡ point → is_eq (R c.version v) ≡ true → meaning R v (kept kind false false (xs ++ c ∷ ys)) ≡ true
  meaning_point_kept xs c ys h g e r =
      let before = opens_last kind false xs in
      let behind = closes_first kind ys false in
      let xs' = kept kind false behind xs in
      let ys' = kept kind before false ys in
      let h' : AllByRecursion (λ c. side R v c ≡ Less) xs' = All-kept kind (λ c. side R v c ≡ Less) false behind xs h in
      let g' : AllByRecursion (λ c. side R v c ≡ Greater) ys' = All-kept kind (λ c. side R v c ≡ Greater) before false ys g in
      let cut : kept kind false false (xs ++ c ∷ ys) ≡ xs' ++ cond (before || behind) ys' (c ∷ ys') =
      kept-append kind false false xs (c ∷ ys) ∙ ap (λ k. kept kind false (closes_here k behind) xs ++ cond (is_dropped before k behind) (kept kind (opens_next before k) false ys) (c ∷ kept kind (opens_next before k) false ys)) e in
      let a = opens_agree kind false false behind xs (inl refl) in
      let b = closes_agree kind before false ys in
      ap (meaning R v) cut
      ∙ cond_both (before || behind) ys' (c ∷ ys') (λ w. meaning R v (xs' ++ w) ≡ true)
      (λ t. meaning_between R v xs' ys' h' g' ∙ or_left _ _ (alike before (opens_last kind false xs') behind (closes_first kind ys' false) a b ∙ t))
      (λ t. meaning_at_point R v xs' c ys' h' e r)

  meaning_hole_kept : (xs : List (Constraint V)) (c : Constraint V) (ys : List (Constraint V)) → AllByRecursion (λ c. side R v c ≡ Less) xs → AllByRecursion (λ c. side R v c ≡ Greater) ys → kind c ≡ hole → is_eq (R c.version v) ≡ true → meaning R v (kept kind false false (xs ++ c ∷ ys)) ≡ false
  meaning_hole_kept xs c ys h g e r =
      let before = opens_last kind false xs in
      let behind = closes_first kind ys false in
      let cut : kept kind false false (xs ++ c ∷ ys) ≡ kept kind false behind xs ++ c ∷ kept kind before false ys =
      kept-append kind false false xs (c ∷ ys) ∙ ap (λ k. kept kind false (closes_here k behind) xs ++ cond (is_dropped before k behind) (kept kind (opens_next before k) false ys) (c ∷ kept kind (opens_next before k) false ys)) e in
      ap (meaning R v) cut
      ∙ meaning_at_hole R v (kept kind false behind xs) c (kept kind before false ys) (All-kept kind (λ c. side R v c ≡ Less) false behind xs h) e r (All-kept kind (λ c. side R v c ≡ Greater) before false ys g)

  kept_means : {list : List (Constraint V)} → Around o v list → meaning R v (kept kind false false list) ≡ meaning R v list
  kept_means (between xs ys h g) = meaning_between_kept xs ys h g
  kept_means (at_one xs c ys h l g) =
      let p = level_is c.comparator (R c.version v) l in
      elim p.1 [
        | inl e ↦ meaning_point_kept xs c ys h g e p.0 ∙ sym (meaning_at_point R v xs c ys h e p.0)
        | inr e ↦ meaning_hole_kept xs c ys h g e p.0 ∙ sym (meaning_at_hole R v xs c ys h e p.0 g)
      ]

  -- simplifying keeps the meaning
  pub simplified_means : (list : List (Constraint V)) → IsSorted R list → meaning R v (simplified kind list) ≡ meaning R v list
  simplified_means list s = ap (meaning R v) (simplified-kept kind list) ∙ kept_means (around o v list s)

-- what is kept stays in order
module _ {V : Type 0} (R : V → V → Ordering) where
  pub sorted_kept : (p n : Bool) (list : List (Constraint V)) → IsSorted R list → IsSorted R (kept kind p n list)
  sorted_kept p n [] s = tt
  sorted_kept p n (c ∷ list) s =
      let rest = kept kind (opens_next p (kind c)) n list in
      let i : IsSorted R rest = sorted_kept (opens_next p (kind c)) n list s.1 in
      cond_both (is_dropped p (kind c) (closes_first kind list n)) rest (c ∷ rest) (λ w. IsSorted R w) (λ t. i) (λ t. (All-kept kind (λ d. R c.version d.version ≡ Less) (opens_next p (kind c)) n list s.0, i))

  pub simplified_is_sorted : (list : List (Constraint V)) → IsSorted R list → IsSorted R (simplified kind list)
  simplified_is_sorted list s = rw (simplified-kept kind list) (sorted_kept false false list s)
