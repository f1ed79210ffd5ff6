-- A release with its last number raised.
use Rattle.std.proofs.Common.{◌≡◌, ◌≢◌, ◌+◌, ◌++◌, nat_lt, ℕ, true, List, [], ◌∷◌, length, Some, refl, ap, arith}
use Rattle.std.specs.List.{AllByRecursion}
use Rattle.std.proofs.lemmas.Bool.{lt-ltb}
use Rattle.pep440_scheme.specs.Next.{bumped, last_number}

pub last_push : (front : List ℕ) (n : ℕ) → last_number (front ++ n ∷ []) ≡ Some n
last_push [] n = refl
last_push (x ∷ []) n = refl
last_push (x ∷ y ∷ front) n = last_push (y ∷ front) n

pub bumped_push : (front : List ℕ) (n : ℕ) → bumped (front ++ n ∷ []) ≡ front ++ (n + 1) ∷ []
bumped_push [] n = refl
bumped_push (x ∷ []) n = refl
bumped_push (x ∷ y ∷ front) n = ap (λ (release : List ℕ). x ∷ release) (bumped_push (y ∷ front) n)

pub some_numbers : (release : List ℕ) → nat_lt 0 (length release) ≡ true → release ≢ []
some_numbers [] some e = cc some
some_numbers (n ∷ release) some e = cc e

pub bumped_some : (release : List ℕ) → nat_lt 0 (length release) ≡ true → nat_lt 0 (length (bumped release)) ≡ true
bumped_some [] some = some
bumped_some (n ∷ []) some = refl
bumped_some (n ∷ m ∷ release) some = lt-ltb 0 (length (n ∷ bumped (m ∷ release))) (omega arith)

pub each_front : {X : Type 0} (P : X → Type 0) (xs ys : List X) → AllByRecursion P (xs ++ ys) → AllByRecursion P xs
each_front P [] ys all = tt
each_front P (x ∷ xs) ys all = (all.0, each_front P xs ys all.1)
