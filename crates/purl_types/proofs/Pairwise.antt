-- Lists compared item by item.
use Rattle.std.proofs.Common.{◌≡◌, ◌<◌, ◌≤◌, ◌+◌, ◌↔◌, ℕ, true, false, IsTrue, List, [], ◌∷◌, length, drop, get_or, refl, arith}
use Rattle.std.proofs.lemmas.Bool.{false≢true}
use Rattle.std.proofs.lemmas.List.{drop_all, drop_more}
use Rattle.vx_spec.specs.Each.{AreEach}

module _ {X : Type 0} (R : X → X → Type 0) where
  -- the lists are related exactly where what is left of them is
  pub record IsLeft (a b : List X) (i : ℕ) : Type 0 where
    pub long : length a ≡ length b
    pub all : AreEach R (drop i a) (drop i b) ↔ AreEach R a b

  pub same_length : (a b : List X) → AreEach R a b → length a ≡ length b
  same_length [] [] p = refl
  same_length [] (y ∷ b) p = absurd p
  same_length (x ∷ a) [] p = absurd p
  same_length (x ∷ a) (y ∷ b) p = omega (arith, same_length a b p.1)

  pub at_start : (a b : List X) → length a ≡ length b → IsLeft a b 0
  at_start a b long = record { long = long; all = ((λ p. p), (λ p. p)) }

  first_left : (a b : List X) (i : ℕ) (x y : X) → i < length a → i < length b
      → AreEach R (drop i a) (drop i b) ↔ (R (get_or a i x) (get_or b i y) × AreEach R (drop (i + 1) a) (drop (i + 1) b))
  first_left a b i x y in_a in_b =
      rw (drop_more a i x in_a, drop_more b i y in_b) ((λ p. p), (λ p. p))

  pub one_more : (a b : List X) (i : ℕ) (x y : X) → i < length a → R (get_or a i x) (get_or b i y) → IsLeft a b i → IsLeft a b (i + 1)
  one_more a b i x y within are left =
      let first = first_left a b i x y within (omega (arith, within, left.long)) in
      record { long = left.long; all = ((λ p. left.all.0 (first.1 (are, p))), (λ p. (first.0 (left.all.1 p)).1)) }

  pub one_apart : (a b : List X) (i : ℕ) (x y : X) → i < length a → ¬ (R (get_or a i x) (get_or b i y)) → IsLeft a b i → ¬ (AreEach R a b)
  one_apart a b i x y within apart left p = apart ((first_left a b i x y within (omega (arith, within, left.long))).0 (left.all.1 p)).0

  pub at_end : (a b : List X) (i : ℕ) → length a ≤ i → IsLeft a b i → AreEach R a b
  at_end a b i past left =
      left.all.0 (rw (drop_all i a past, drop_all i b (omega (arith, past, left.long))) tt)

-- what is told of a fact
pub told_true : {P : Type 0} → P → IsTrue true ↔ P
told_true p = ((λ t. p), (λ q. refl))

pub told_false : {P : Type 0} → ¬ P → IsTrue false ↔ P
told_false none = ((λ t. absurd (false≢true t)), (λ q. absurd (none q)))
