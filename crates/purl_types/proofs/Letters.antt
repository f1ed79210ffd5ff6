-- Bytes and texts that fold alike.
use Rattle.std.proofs.Common.{◌≡◌, ◌≢◌, ℕ, List, [], ◌∷◌, map, refl, sym, ap, ◌∙◌, inl, inr, arith}
use Rattle.std.specs.Char.{to_ascii_lowercase}
use Rattle.std.proofs.lemmas.Bool.Decides.{nat_tests}
use Rattle.std.proofs.lemmas.Bool.{cases_eq, cases_lt}
use Rattle.vx_text.specs.Folding.{lowered}
use Rattle.purl_types.specs.Folding.{dash, fold_text}
use Rattle.vx_spec.specs.Each.{AreEach}
use Rattle.purl_types.specs.Same.{IsDash, SameLetter, SameSign, SameText}
use Rattle.purl_types.specs.declared.table.Folding.{Folding}
use Rattle.purl_types.specs.declared.table.Folding.TheVariants.{Kept, Lowered, Dashed}

-- ---- bytes

pub letter_if : (a b : ℕ) → to_ascii_lowercase a ≡ to_ascii_lowercase b → SameLetter a b
letter_if a b e = elim (cases_eq a b) [
  | inl same ↦ inl same
  | inr other ↦ elim (cases_lt a b) [
    | inl less ↦ inr (inl (grind (arith, nat_tests)))
    | inr more ↦ inr (inr (grind (arith, nat_tests)))
  ]
]

pub letter_only : (a b : ℕ) → SameLetter a b → to_ascii_lowercase a ≡ to_ascii_lowercase b
letter_only a b (inl e) = ap to_ascii_lowercase e
letter_only a b (inr (inl r)) = grind (arith, nat_tests)
letter_only a b (inr (inr r)) = grind (arith, nat_tests)

-- lower case, and then '-' for '_'
abbrev pub dashed_byte : ℕ → ℕ
dashed_byte b = dash (to_ascii_lowercase b)

pub sign_if : (a b : ℕ) → dashed_byte a ≡ dashed_byte b → SameSign a b
sign_if a b e = elim (cases_eq (to_ascii_lowercase a) (to_ascii_lowercase b)) [
  | inl same ↦ inl (letter_if a b same)
  | inr other ↦ inr (is_dash a b other e, is_dash b a (λ z. other (sym z)) (sym e))
] where
  is_dash : (a b : ℕ) → to_ascii_lowercase a ≢ to_ascii_lowercase b → dashed_byte a ≡ dashed_byte b → IsDash a
  is_dash a b other e = elim (cases_eq a 45) [
    | inl line ↦ inl line
    | inr differs ↦ inr (grind (arith, nat_tests))
  ]

pub sign_only : (a b : ℕ) → SameSign a b → dashed_byte a ≡ dashed_byte b
sign_only a b (inl s) = ap dash (letter_only a b s)
sign_only a b (inr d) = of_dash a d.0 ∙ sym (of_dash b d.1) where
  of_dash : (a : ℕ) → IsDash a → dashed_byte a ≡ 45
  of_dash a (inl e) = rw e refl
  of_dash a (inr e) = rw e refl

-- ---- lists, of any relation that is equality of what a function gives

pub list_if : {X Y : Type 0} (R : X → X → Type 0) (f : X → Y) → ((a b : X) → f a ≡ f b → R a b) → (xs ys : List X) → map f xs ≡ map f ys → AreEach R xs ys
list_if R f each [] [] e = tt
list_if R f each [] (y ∷ ys) e = cc e
list_if R f each (x ∷ xs) [] e = cc e
list_if R f each (x ∷ xs) (y ∷ ys) e = (each x y (cc e), list_if R f each xs ys (cc e))

pub list_only : {X Y : Type 0} (R : X → X → Type 0) (f : X → Y) → ((a b : X) → R a b → f a ≡ f b) → (xs ys : List X) → AreEach R xs ys → map f xs ≡ map f ys
list_only R f each [] [] p = refl
list_only R f each [] (y ∷ ys) p = absurd p
list_only R f each (x ∷ xs) [] p = absurd p
list_only R f each (x ∷ xs) (y ∷ ys) p = cc (each x y p.0, list_only R f each xs ys p.1)

-- ---- texts

pub dashed_is : (text : List ℕ) → map dash (lowered text) ≡ map dashed_byte text
dashed_is [] = refl
dashed_is (b ∷ text) = ap (λ (t : List ℕ). dashed_byte b ∷ t) (dashed_is text)

pub text_if : (folding : Folding) (a b : List ℕ) → fold_text folding a ≡ fold_text folding b → SameText folding a b
text_if Kept a b e = e
text_if Lowered a b e = list_if SameLetter to_ascii_lowercase letter_if a b e
text_if Dashed a b e = list_if SameSign dashed_byte sign_if a b (sym (dashed_is a) ∙ e ∙ dashed_is b)

pub text_only : (folding : Folding) (a b : List ℕ) → SameText folding a b → fold_text folding a ≡ fold_text folding b
text_only Kept a b s = s
text_only Lowered a b s = list_only SameLetter to_ascii_lowercase letter_only a b s
text_only Dashed a b s = dashed_is a ∙ list_only SameSign dashed_byte sign_only a b s ∙ sym (dashed_is b)
