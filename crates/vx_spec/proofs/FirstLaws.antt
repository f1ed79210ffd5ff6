-- The first refusal of a list.
use Rattle.std.proofs.Common.{◌≡◌, List, [], ◌∷◌, ◌++◌, sym, ◌∙◌, inl, inr, Option, Some, None}
use Rattle.vx_spec.specs.Firsts.{IsFirst}

module _ {C R : Type 0} (Refuses : C → Option R → Type 0) where
  -- where the front has no refusal, the rest decides
  pub first_pass : (items rest : List C) (answer : Option R) → IsFirst Refuses items None → IsFirst Refuses rest answer → IsFirst Refuses (items ++ rest) answer
  first_pass [] rest answer p q = q
  first_pass (c ∷ items) rest answer (inl p) q = inl (p.0, first_pass items rest answer p.1 q)
  first_pass (c ∷ items) rest answer (inr p) q = absurd (cc (p.2))

  -- the refusal of the front is that of the whole
  pub first_stop : (items rest : List C) (r : R) → IsFirst Refuses items (Some r) → IsFirst Refuses (items ++ rest) (Some r)
  first_stop [] rest r p = absurd (cc p)
  first_stop (c ∷ items) rest r (inl p) = inl (p.0, first_stop items rest r p.1)
  first_stop (c ∷ items) rest r (inr p) = inr p

  -- there is one first refusal, where each item is refused in one way
  pub one_first : ((c : C) (r q : Option R) → Refuses c r → Refuses c q → r ≡ q) → (items : List C) (r q : Option R) → IsFirst Refuses items r → IsFirst Refuses items q → r ≡ q
  one_first one [] r q x y = x ∙ sym y
  one_first one (c ∷ items) r q (inl x) (inl y) = one_first one items r q x.1 y.1
  one_first one (c ∷ items) r q (inl x) (inr y) = absurd (cc (one c None (Some y.0) x.0 y.1))
  one_first one (c ∷ items) r q (inr x) (inl y) = absurd (cc (one c None (Some x.0) y.0 x.1))
  one_first one (c ∷ items) r q (inr x) (inr y) = x.2 ∙ one c (Some x.0) (Some y.0) x.1 y.1 ∙ sym y.2
