-- The cut before a version: where it is, and that there is one.
use Rattle.std.proofs.Common.{◌≡◌, ◌≢◌, ◌<◌, ◌≤◌, ◌+◌, ◌-◌, ℕ, zero, suc, List, [], ◌∷◌, ◌++◌, length, get_or, take, drop, refl, sym, ap, ◌∙◌, subst, Option, Some, None, arith, append-nil, take-append-drop, length-drop}
use Rattle.std.proofs.lemmas.List.{drop_more, get_or-drop, take_rest}
use Rattle.std.proofs.Common.{inl, inr}
use Rattle.std.proofs.lemmas.Bool.{cases_eq}
use Rattle.vx_spec.specs.Marks.{marked}
use Rattle.purl_core.specs.Cuts.{last_of, NoneCounts, CountsLast, IsVersionCut}

-- a list is its front, the byte at i and the rest
split_around : (xs : List ℕ) (i s : ℕ) → i < length xs → get_or xs i 0 ≡ s → xs ≡ take i xs ++ s ∷ drop (i + 1) xs
split_around xs i s inside here = sym (take-append-drop i xs) ∙ ap (λ l. take i xs ++ l) (drop_more xs i 0 inside ∙ ap (λ b. b ∷ drop (i + 1) xs) here)

-- where an '@' that stands in a text is the last of its front, it is directly behind a '/'
none_front : (before : ℕ) (xs t : List ℕ) → NoneCounts before (xs ++ 64 ∷ t) → last_of before xs ≡ 47
none_front before [] t p = p.0 refl
none_front before (x ∷ xs) t p = none_front x xs t p.1

-- A text is cut at its last '@' that counts in one way.
pub one_version_cut : (before : ℕ) (a b : List ℕ) (x y : Option (List ℕ)) → CountsLast before a x → CountsLast before b y → a ++ marked 64 x ≡ b ++ marked 64 y
    → (a ≡ b) × (x ≡ y)
one_version_cut before a b None None p q e = (sym (append-nil a) ∙ e ∙ append-nil b, refl)
one_version_cut before a b None (Some t) p q e = absurd (q.0 (none_front before b t (subst (NoneCounts before) (sym (append-nil a) ∙ e) p)))
one_version_cut before a b (Some s) None p q e = absurd (p.0 (none_front before a s (subst (NoneCounts before) (sym (append-nil b) ∙ sym e) q)))
one_version_cut before [] [] (Some s) (Some t) p q e = (refl, cc e)
one_version_cut before [] (y ∷ ys) (Some s) (Some t) p q e =
    let f : s ≡ ys ++ 64 ∷ t = cc e in let g : y ≡ 64 = cc e in
    absurd (q.0 (subst (λ v. last_of v ys ≡ 47) (sym g) (none_front 64 ys t (subst (NoneCounts 64) f p.1))))
one_version_cut before (x ∷ xs) [] (Some s) (Some t) p q e =
    let f : t ≡ xs ++ 64 ∷ s = cc e in let g : x ≡ 64 = cc e in
    absurd (p.0 (subst (λ v. last_of v xs ≡ 47) (sym g) (none_front 64 xs s (subst (NoneCounts 64) f q.1))))
one_version_cut before (x ∷ xs) (y ∷ ys) (Some s) (Some t) p q e =
    let g : x ≡ y = cc e in
    let r = one_version_cut x xs ys (Some s) (Some t) p (subst (λ v. CountsLast v ys (Some t)) (sym g) q) (cc e) in
    (cc (g, r.0), r.1)

-- by places: the byte before place i of the text is that at i behind `before`
pub none_counts : (before : ℕ) (text : List ℕ) → ((i : ℕ) → i < length text → get_or text i 0 ≡ 64 → get_or (before ∷ text) i 0 ≡ 47) → NoneCounts before text
none_counts before [] h = tt
none_counts before (b ∷ text) h = (h 0 (omega arith), none_counts b text (λ i w. h (suc i) (omega (arith, w))))

last_of_take : (before : ℕ) (text : List ℕ) (i : ℕ) → i ≤ length text → last_of before (take i text) ≡ get_or (before ∷ text) i 0
last_of_take before text zero w = refl
last_of_take before [] (suc i) w = absurd (omega (arith, w))
last_of_take before (b ∷ text) (suc i) w = last_of_take b text i (omega (arith, w))

-- the byte before, where there is one
pub before_at : (before : ℕ) (text : List ℕ) (i : ℕ) → 0 < i → get_or (before ∷ text) i 0 ≡ get_or text (i - 1) 0
before_at before text zero w = absurd (omega (arith, w))
before_at before text (suc i) w = ap (λ k. get_or text k 0) (omega arith)

pub version_none : (text : List ℕ) → ((i : ℕ) → i < length text → get_or text i 0 ≡ 64 → 0 < i → get_or text (i - 1) 0 ≡ 47) → IsVersionCut text text None
version_none text h = record {
  joined = sym (append-nil text);
  counts = none_counts 47 text (λ i w e. by_place i w e);
} where
  by_place : (i : ℕ) → i < length text → get_or text i 0 ≡ 64 → get_or (47 ∷ text) i 0 ≡ 47
  by_place zero w e = refl
  by_place (suc i) w e = let s : 0 < suc i = omega arith in before_at 47 text (suc i) s ∙ h (suc i) w e s

-- one place further to the left
pub last_step : (text : List ℕ) (at : ℕ) → 0 < at
    → (get_or text (at - 1) 0 ≡ 64 → 0 < at - 1 → get_or text (at - 1 - 1) 0 ≢ 47 → ⊥)
    → ((i : ℕ) → at ≤ i → i < length text → get_or text i 0 ≡ 64 → 0 < i → get_or text (i - 1) 0 ≡ 47)
    → (i : ℕ) → at - 1 ≤ i → i < length text → get_or text i 0 ≡ 64 → 0 < i → get_or text (i - 1) 0 ≡ 47
last_step text at some here after i low w e s = elim (cases_eq i (at - 1)) [
  | inl same ↦ elim (cases_eq (get_or text (i - 1) 0) 47) [
    | inl is ↦ is
    | inr other ↦ absurd (here (rw (← same) e) (rw (← same) s) (rw (← same) other))
  ]
  | inr differs ↦ after i (omega (arith, low, differs)) w e s
]

pub version_some : (text : List ℕ) (at : ℕ) → at < length text → get_or text at 0 ≡ 64 → 0 < at → get_or text (at - 1) 0 ≢ 47
    → ((i : ℕ) → at < i → i < length text → get_or text i 0 ≡ 64 → get_or text (i - 1) 0 ≡ 47)
    → IsVersionCut text (take at text) (Some (take (length text - (at + 1)) (drop (at + 1) text)))
version_some text at w here some other after = record {
  joined = split_around text at 64 w here ∙ ap (λ (t : List ℕ). take at text ++ 64 ∷ t) (sym (take_rest text (at + 1)));
  counts = (λ e. other (sym (before_at 47 text at some) ∙ sym (last_of_take 47 text at (omega (arith, w))) ∙ e), rw (take_rest text (at + 1)) (none_counts 64 (drop (at + 1) text) behind));
} where
  behind : (i : ℕ) → i < length (drop (at + 1) text) → get_or (drop (at + 1) text) i 0 ≡ 64 → get_or (64 ∷ drop (at + 1) text) i 0 ≡ 47
  behind i in_rest e =
      let size = length-drop (at + 1) text in
      let last = after (at + 1 + i) (omega arith) (omega (arith, in_rest, size)) (sym (get_or-drop (at + 1) text i 0) ∙ e) in
      elim (cases_eq i 0) [
        | inl none ↦ absurd (let z : at + 1 + i - 1 ≡ at = omega (arith, none) in let q : 64 ≡ 47 = sym here ∙ ap (λ k. get_or text k 0) (sym z) ∙ last in cc (q))
        | inr more ↦ before_at 64 (drop (at + 1) text) i (omega (arith, more)) ∙ get_or-drop (at + 1) text (i - 1) 0
            ∙ (let z : at + 1 + (i - 1) ≡ at + 1 + i - 1 = omega (arith, more) in ap (λ k. get_or text k 0) z) ∙ last
      ]
