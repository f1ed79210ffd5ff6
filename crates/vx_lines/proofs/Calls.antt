-- Calls of a sink, one after another.
use Rattle.std.proofs.Common.{ℕ, List, [], ◌∷◌, ◌++◌, refl, sym, subst}
use Rattle.std.specs.List.{FoldsTo}
use Rattle.std.specs.Prelude.{Ok}
use Rattle.vx_lines.specs.Outside.{WriteGives, TakesSome, Succeeds, FailsAtLast}

pub folds_append : {P A : Type 0} (R : P → A → P → Type 0) (p q r : P) (xs ys : List A) → FoldsTo R p xs q → FoldsTo R q ys r → FoldsTo R p (xs ++ ys) r
folds_append R p q r [] ys e f = subst (λ s. FoldsTo R s ys r) (sym e) f
folds_append R p q r (x ∷ xs) ys (j, step, e) f = (j, step, folds_append R j q r xs ys e f)

module _ {W : Type 0} (gives : WriteGives W) where
  -- one call more
  pub succeeds_more : (old mid new : W) (bytes : List ℕ) (n : ℕ) → Succeeds gives old mid → gives mid bytes (Ok n) new → Succeeds gives old new
  succeeds_more old mid new bytes n (calls, made) step = (calls ++ (bytes, n) ∷ [], folds_append (TakesSome gives) old mid new calls ((bytes, n) ∷ []) made (new, step, refl))

  pub succeeds_then : (old mid new : W) → Succeeds gives old mid → Succeeds gives mid new → Succeeds gives old new
  succeeds_then old mid new (calls, made) (more, rest) = (calls ++ more, folds_append (TakesSome gives) old mid new calls more made rest)

  pub fails_then : (old mid new : W) → Succeeds gives old mid → FailsAtLast gives mid new → FailsAtLast gives old new
  fails_then old mid new before (last, made, failed) = (last, succeeds_then old mid last before made, failed)
