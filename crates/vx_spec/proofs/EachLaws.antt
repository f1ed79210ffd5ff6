-- Lists related item by item, and facts on each item.
use Rattle.std.proofs.Common.{◌≡◌, ◌<◌, ◌++◌, ℕ, zero, suc, List, [], ◌∷◌, length, map, get_or, refl, arith}
use Rattle.std.specs.List.{AllByRecursion}
use Rattle.vx_spec.specs.Each.{AreEach}

module _ {C : Type 0} (P : C → Type 0) where
  pub each_append : (xs ys : List C) → AllByRecursion P xs → AllByRecursion P ys → AllByRecursion P (xs ++ ys)
  each_append [] ys p q = q
  each_append (x ∷ xs) ys p q = (p.0, each_append xs ys p.1 q)

  pub each_behind : (xs ys : List C) → AllByRecursion P (xs ++ ys) → AllByRecursion P ys
  each_behind [] ys p = p
  each_behind (x ∷ xs) ys p = each_behind xs ys p.1

-- one of the items that all have a property
pub each_at : {X Y : Type 0} (P : Y → Type 0) (f : X → Y) (xs : List X) (i : ℕ) (d : X) → i < length xs → AllByRecursion P (map f xs) → P (f (get_or xs i d))
each_at P f [] i d less all = absurd (omega (arith, less))
each_at P f (x ∷ xs) zero d less all = all.0
each_at P f (x ∷ xs) (suc i) d less all = each_at P f xs i d (omega (arith, less)) all.1

-- a list is related to one other at most, where each item is
pub one_each : {A B : Type 0} (R : A → B → Type 0) → ((x : A) (a b : B) → R x a → R x b → a ≡ b) → (xs : List A) (ys zs : List B) → AreEach R xs ys → AreEach R xs zs → ys ≡ zs
one_each R one [] [] [] p q = refl
one_each R one [] [] (z ∷ zs) p q = absurd q
one_each R one [] (y ∷ ys) zs p q = absurd p
one_each R one (x ∷ xs) [] zs p q = absurd p
one_each R one (x ∷ xs) (y ∷ ys) [] p q = absurd q
one_each R one (x ∷ xs) (y ∷ ys) (z ∷ zs) p q = let e = one x y z p.0 q.0 in let f = one_each R one xs ys zs p.1 q.1 in cc (e, f)
