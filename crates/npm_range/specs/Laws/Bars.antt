-- Where the first `||` of a text is, and that it is in one place.
use Rattle.std.proofs.Common.{◌≡◌, ◌<◌, ◌≤◌, ◌+◌, ◌&&◌, ◌||◌, ℕ, suc, List, [], ◌∷◌, ◌++◌, length, take, drop, Bool, true, false, refl, sym, ap, ◌∙◌, inl, inr, arith, length-append}
use Rattle.std.proofs.lemmas.Bool.{cases_Bool, and_parts, eqb-true}
use Rattle.std.proofs.lemmas.List.{take_at, drop_at}
use Rattle.vx_spec.specs.Runs.{begins}
use Rattle.npm_range.specs.Cutting.{is_bar, has_bars, IsCutAtBars}
use Rattle.npm_range.specs.Steps.Bars.{before_bars}

-- ---- where it is found

-- one bar before the first `||` is not its first
begins_before : (text : List ℕ) → before_bars text < length text → begins is_bar (take (before_bars text) text ++ 124 ∷ []) ≡ begins is_bar text
begins_before [] less = absurd (omega arith)
begins_before (b ∷ text) less = elim (cases_Bool (is_bar b && begins is_bar text)) [
  | inl is ↦ let a = and_parts (is_bar b) (begins is_bar text) is in rw (is, a.0) refl
  | inr no_bar ↦ rw no_bar refl
]

first_found : (text : List ℕ) → before_bars text < length text → has_bars (take (before_bars text) text ++ 124 ∷ []) ≡ false
first_found [] less = absurd (omega arith)
first_found (b ∷ text) less = elim (cases_Bool (is_bar b && begins is_bar text)) [
  | inl is ↦ rw is refl
  | inr other ↦
      let small : before_bars text < length text = let s = rw other at less in omega (arith, s) in
      rw (other, begins_before text small, other, first_found text small) refl
]

begins_split : (text : List ℕ) → begins is_bar text ≡ true → text ≡ 124 ∷ drop 1 text
begins_split [] e = cc e
begins_split (b ∷ text) e = ap (λ (x : ℕ). x ∷ text) (eqb-true b 124 e)

drop_two : (b n : ℕ) (text : List ℕ) → drop (suc n + 2) (b ∷ text) ≡ drop (n + 2) text
drop_two b n text = let e : suc n + 2 ≡ suc (n + 2) = omega arith in rw e refl

joined_found : (text : List ℕ) → before_bars text < length text → text ≡ take (before_bars text) text ++ 124 ∷ 124 ∷ drop (before_bars text + 2) text
joined_found [] less = absurd (omega arith)
joined_found (b ∷ text) less = elim (cases_Bool (is_bar b && begins is_bar text)) [
  | inl is ↦
      let a = and_parts (is_bar b) (begins is_bar text) is in
      rw is (ap (λ (x : ℕ). x ∷ text) (eqb-true b 124 a.0) ∙ ap (λ (t : List ℕ). 124 ∷ t) (begins_split text a.1))
  | inr other ↦
      let small : before_bars text < length text = let s = rw other at less in omega (arith, s) in
      rw (other, drop_two b (before_bars text) text) (ap (λ (t : List ℕ). b ∷ t) (joined_found text small))
]

pub none_found : (text : List ℕ) → before_bars text ≡ length text → has_bars text ≡ false
none_found [] e = refl
none_found (b ∷ text) e = elim (cases_Bool (is_bar b && begins is_bar text)) [
  | inl is ↦ absurd (let s = rw is at e in omega (arith, s))
  | inr other ↦ let s = rw other at e in rw (other, none_found text (omega (arith, s))) refl
]

pub before_most : (text : List ℕ) → before_bars text ≤ length text
before_most [] = omega arith
before_most (b ∷ text) = elim (cases_Bool (is_bar b && begins is_bar text)) [
  | inl is ↦ rw is (omega arith)
  | inr other ↦ rw other (omega (arith, before_most text))
]

begins_some : (text : List ℕ) → begins is_bar text ≡ true → 1 ≤ length text
begins_some [] e = cc e
begins_some (b ∷ text) e = omega arith

pub two_within : (text : List ℕ) → before_bars text < length text → before_bars text + 2 ≤ length text
two_within [] less = absurd (omega arith)
two_within (b ∷ text) less = elim (cases_Bool (is_bar b && begins is_bar text)) [
  | inl is ↦ let a = and_parts (is_bar b) (begins is_bar text) is in rw is (omega (arith, begins_some text a.1))
  | inr other ↦
      let small : before_bars text < length text = let s = rw other at less in omega (arith, s) in
      rw other (omega (arith, two_within text small))
]

-- ---- and where it is not

or_false : (a b : Bool) → (a || b) ≡ false → (a ≡ false) × (b ≡ false)
or_false true b e = cc e
or_false false b e = (refl, e)

begins_bar : (front behind : List ℕ) → begins is_bar (front ++ 124 ∷ behind) ≡ begins is_bar (front ++ 124 ∷ [])
begins_bar [] behind = refl
begins_bar (b ∷ front) behind = refl

-- what is cut is found
only : (front behind : List ℕ) → has_bars (front ++ 124 ∷ []) ≡ false → before_bars (front ++ 124 ∷ 124 ∷ behind) ≡ length front
only [] behind first = refl
only (b ∷ front) behind first =
    let p = or_false (is_bar b && begins is_bar (front ++ 124 ∷ [])) (has_bars (front ++ 124 ∷ [])) first in
    rw (begins_bar front (124 ∷ behind), p.0, only front behind p.1) refl

-- a text without `||` is run through
only_none : (text : List ℕ) → has_bars text ≡ false → before_bars text ≡ length text
only_none [] e = refl
only_none (b ∷ text) e = let p = or_false (is_bar b && begins is_bar text) (has_bars text) e in rw (p.0, only_none text p.1) refl

-- The first `||` stands at one place.
pub one_cut_at_bars : (text f g x y : List ℕ) → IsCutAtBars text f x → IsCutAtBars text g y → (f ≡ g) × (x ≡ y)
one_cut_at_bars text f g x y p q =
    let e : length f ≡ length g = sym (ap before_bars p.joined ∙ only f x p.first) ∙ (ap before_bars q.joined ∙ only g y q.first) in
    let same = sym p.joined ∙ q.joined in
    let front : f ≡ g = sym (take_at f (124 ∷ 124 ∷ x) (length f) refl) ∙ ap (take (length f)) same ∙ take_at g (124 ∷ 124 ∷ y) (length f) (sym e) in
    let behind : 124 ∷ 124 ∷ x ≡ 124 ∷ 124 ∷ y = sym (drop_at f (124 ∷ 124 ∷ x) (length f) refl) ∙ ap (drop (length f)) same ∙ drop_at g (124 ∷ 124 ∷ y) (length f) (sym e) in
    (front, ap (drop 2) behind)

-- a text with `||` is not one without
pub cut_has : (text f x : List ℕ) → IsCutAtBars text f x → has_bars text ≡ false → ⊥
cut_has text f x p none =
    let n = sym (ap before_bars p.joined ∙ only f x p.first) ∙ only_none text none in
    let m = ap length p.joined ∙ length-append f (124 ∷ 124 ∷ x) in
    omega (arith, n, m)

-- what is found is cut
pub cut_found : (text : List ℕ) → before_bars text < length text → IsCutAtBars text (take (before_bars text) text) (drop (before_bars text + 2) text)
cut_found text less = record { joined = joined_found text less; first = first_found text less }
