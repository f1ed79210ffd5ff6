-- A list that is the same as a simplified one, but for order-equal versions, is as simple.
use Rattle.std.proofs.Common.{◌≡◌, Bool, true, false, List, [], ◌∷◌, refl, ◌∙◌}
use Rattle.std.specs.declared.cmp.Ordering.{Ordering}
use Rattle.vx_vers.specs.declared.constraints.Constraint.{Constraint}
use Rattle.vx_vers.specs.Again.{IsSameList}
use Rattle.vx_vers.specs.Meaning.{kind, kind_of_comparator, opens_next, closes_here, closes_first}
use Rattle.vx_vers.specs.Validity.{is_valid}
use Rattle.vx_simplify.specs.Simplified.{is_dropped, simplified}
use Rattle.vx_simplify.proofs.CleanLaws.{clean_is_valid}
use Rattle.vx_simplify.proofs.Dropping.{IsClean, kept_of_clean, simplified-kept, simplified_is_clean}

module _ {V : Type 0} (order : V → V → Ordering) where
  closes_same : (n : Bool) (a b : List (Constraint V)) → IsSameList order a b → closes_first kind a n ≡ closes_first kind b n
  closes_same n [] [] s = refl
  closes_same n [] (d ∷ b) s = absurd s
  closes_same n (c ∷ a) [] s = absurd s
  closes_same n (c ∷ a) (d ∷ b) s = λ i. closes_here (kind_of_comparator (s.0 i)) (closes_same n a b s.2 i)

  clean_same : (p q n : Bool) → p ≡ q → (a b : List (Constraint V)) → IsSameList order a b → IsClean kind q n b → IsClean kind p n a
  clean_same p q n e [] [] s h = tt
  clean_same p q n e [] (d ∷ b) s h = absurd s
  clean_same p q n e (c ∷ a) [] s h = absurd s
  clean_same p q n e (c ∷ a) (d ∷ b) s h = (
    (λ i. is_dropped (e i) (kind_of_comparator (s.0 i)) (closes_same n a b s.2 i)) ∙ h.0,
    clean_same (opens_next p (kind c)) (opens_next q (kind d)) n (λ i. opens_next (e i) (kind_of_comparator (s.0 i))) a b s.2 h.1,
  )

  again_clean : (a list : List (Constraint V)) → IsSameList order a (simplified kind list) → IsClean kind false false a
  again_clean a list s = clean_same false false false refl a (simplified kind list) s (simplified_is_clean kind list)

  pub again_valid : (a list : List (Constraint V)) → IsSameList order a (simplified kind list) → is_valid kind a ≡ true
  again_valid a list s = clean_is_valid kind a (again_clean a list s)

  pub again_once : (a list : List (Constraint V)) → IsSameList order a (simplified kind list) → simplified kind a ≡ a
  again_once a list s = simplified-kept kind a ∙ kept_of_clean kind false false a (again_clean a list s)
