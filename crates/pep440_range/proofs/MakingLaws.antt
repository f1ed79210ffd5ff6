-- Numerals that are raised, and releases without their last number.
use Rattle.std.proofs.Common.{lt-ltb, ◌≡◌, ◌+◌, ◌<◌, ◌^◌, ◌++◌, ◌↔◌, nat_lt, ℕ, Bool, true, false, List, [], ◌∷◌, length, Option, Some, None, MatchOption, IsTrue, refl, sym, ap, ◌∙◌, inl, inr, arith}
use Rattle.std.specs.List.{AllByRecursion}
use Rattle.std.proofs.lemmas.Bool.{cases_Bool}
use Rattle.std.proofs.lemmas.Bool.Decides.{nat_tests}
use Rattle.vx_range.specs.declared.making.Outcome.TheVariants.{Spans}
use Rattle.pep440_scheme.specs.Version.{IsSmall}
use Rattle.pep440_scheme.specs.Next.{IsAtLimit, last_number}
use Rattle.pep440_range.specs.Holds.{without_last}
use Rattle.pep440_range.specs.Refusals.{bumped, raised}

fits : (n : ℕ) → n < 2 ^ 128 → ¬ (IsAtLimit (Some n)) → raised (Some n) ≡ Spans
fits n small limit = elim (cases_Bool (nat_lt (n + 1) (2 ^ 128))) [
  | inl below ↦ rw below refl
  | inr high ↦ absurd (limit (grind (arith, nat_tests)))
]

-- the last number of a release can be raised where it is not the greatest
pub bumped_fits : (release : List ℕ) → nat_lt 0 (length release) ≡ true → AllByRecursion IsSmall release
    → ¬ (IsAtLimit (last_number release)) → bumped (last_number release) ≡ Spans
bumped_fits [] some small limit = absurd (cc some)
bumped_fits (n ∷ []) some small limit = fits n small.0 limit
bumped_fits (n ∷ m ∷ release) some small limit = bumped_fits (m ∷ release) (lt-ltb 0 (length (m ∷ release)) (omega arith)) small.1 limit

without_push : (front : List ℕ) (n : ℕ) → without_last (front ++ n ∷ []) ≡ front
without_push [] n = refl
without_push (x ∷ []) n = refl
without_push (x ∷ y ∷ front) n = ap (λ (numbers : List ℕ). x ∷ numbers) (without_push (y ∷ front) n)

-- what is left when the last number is taken off
pub popped : (numbers old new : List ℕ) → old ≡ numbers → (r : Option ℕ)
    → MatchOption r ((old ≡ []) × (new ≡ [])) (λ last. old ≡ new ++ last ∷ []) → new ≡ without_last numbers
popped numbers old new e None none = none.1 ∙ ap without_last (sym none.0 ∙ e)
popped numbers old new e (Some last) is = sym (without_push new last) ∙ ap without_last (sym is ∙ e)

pub without_small : (numbers : List ℕ) → AllByRecursion IsSmall numbers → AllByRecursion IsSmall (without_last numbers)
without_small [] small = tt
without_small (n ∷ []) small = tt
without_small (n ∷ m ∷ numbers) small = (small.0, without_small (m ∷ numbers) small.1)

pub some_numbers : (release : List ℕ) (empty : Bool) → (IsTrue empty ↔ (release ≡ [])) → empty ≡ false → nat_lt 0 (length release) ≡ true
some_numbers [] empty is none = absurd (cc (is.1 refl, none))
some_numbers (n ∷ release) empty is none = lt-ltb 0 (length (n ∷ release)) (omega arith)
