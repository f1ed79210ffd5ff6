-- Texts that end with '.*'.
use Rattle.std.proofs.Common.{◌≡◌, ◌≢◌, ◌++◌, Bor, ℕ, false, List, [], ◌∷◌, length, codes, Option, Some, None, MatchOption, refl, sym, ap, ◌∙◌, inl, inr, arith, length-append}
use Rattle.std.specs.Option.{option_copied, option_map}
use Rattle.std.specs.Str.{bytes_eq}
use Rattle.std.proofs.lemmas.Bool.{cases_Bool}
use Rattle.std.proofs.lemmas.Slice.Eq.{bytes_eq-Decides}
use Rattle.pep440_range.specs.Reading.{before_star}

longer : (b : ℕ) (front : List ℕ) → bytes_eq (b ∷ (front ++ codes ".*")) (codes ".*") ≡ false
longer b front = elim (cases_Bool (bytes_eq (b ∷ (front ++ codes ".*")) (codes ".*"))) [
  | inl same ↦
      let e : b ∷ (front ++ codes ".*") ≡ codes ".*" = (bytes_eq-Decides (b ∷ (front ++ codes ".*")) (codes ".*")).0 same in
      let size : length (b ∷ (front ++ codes ".*")) ≡ 2 = ap length e in
      absurd (omega (arith, size, length-append front (codes ".*")))
  | inr other ↦ other
]

star_found : (front : List ℕ) → before_star (front ++ codes ".*") ≡ Some front
star_found [] = refl
star_found (b ∷ front) = rw (longer b front, star_found front) refl

mapped : (b : ℕ) (text : List ℕ) (found : Option (List ℕ)) (front : List ℕ) → ((f : List ℕ) → found ≡ Some f → text ≡ f ++ codes ".*")
    → option_map (λ f. b ∷ f) found ≡ Some front → b ∷ text ≡ front ++ codes ".*"
mapped b text None front by e = cc e
mapped b text (Some f) front by e =
    let is : b ∷ f ≡ front = cc e in ap (λ (t : List ℕ). b ∷ t) (by f refl) ∙ ap (λ (t : List ℕ). t ++ codes ".*") is

star_joined : (text front : List ℕ) → before_star text ≡ Some front → text ≡ front ++ codes ".*"
star_joined [] front e = cc e
star_joined (b ∷ text) front e = elim (cases_Bool (bytes_eq (b ∷ text) (codes ".*"))) [
  | inl same ↦
      let is : [] ≡ front = let s : Some [] ≡ Some front = rw same at e in cc s in
      (bytes_eq-Decides (b ∷ text) (codes ".*")).0 same ∙ ap (λ (t : List ℕ). t ++ codes ".*") is
  | inr other ↦ mapped b text (before_star text) front (λ f found. star_joined text f found) (rw other at e)
]

star_none : (text : List ℕ) (found : Option (List ℕ)) → found ≡ before_star text → ((front : List ℕ) → text ≢ front ++ codes ".*")
    → None ≡ found
star_none text None e none = refl
star_none text (Some front) e none = absurd (none front (star_joined text front (sym e)))

-- what stripping the suffix answers
pub stripped : (text : List ℕ) (r : Option (Bor (List ℕ)))
    → MatchOption r ((front : List ℕ) → text ≢ front ++ codes ".*") (λ x. text ≡ x.now ++ codes ".*") → option_copied r ≡ before_star text
stripped text None none = star_none text (before_star text) refl none
stripped text (Some x) is = sym (ap before_star is ∙ star_found x.now)
