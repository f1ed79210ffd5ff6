-- A version is above the last constraint of a list.
use Rattle.std.proofs.Common.{◌≡◌, ℕ, suc, ◌-◌, List, [], ◌∷◌, length, get_or, Ordering, Less, ap, subst, ◌∙◌, arith}
use Rattle.vx_vers.specs.declared.constraints.Constraint.{Constraint}
use Rattle.vx_vers.specs.Sorted.{IsAboveLast}

module _ {V : Type 0} (order : V → V → Ordering) where
  one_less : (n : ℕ) → suc (suc n) - 1 ≡ suc (suc n - 1)
  one_less n = omega arith

  pub above_last : (list : List (Constraint V)) (last : Constraint V) (v : V) → last ≡ get_or list (length list - 1) last → order last.version v ≡ Less → IsAboveLast order list v
  above_last [] last v is less = tt
  above_last (c ∷ []) last v is less = subst (λ (d : Constraint V). order d.version v ≡ Less) is less
  above_last (c ∷ d ∷ list) last v is less = above_last (d ∷ list) last v (is ∙ ap (λ n. get_or (c ∷ d ∷ list) n last) (one_less (length list))) less
