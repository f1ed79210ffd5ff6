-- The first part that fails, found on the way over the parts.
use Rattle.std.proofs.Common.{◌≡◌, ◌++◌, ℕ, List, [], ◌∷◌, Option, Some, None, subst, inl, inr}
use Rattle.vx_spec.proofs.EachLaws.{each_append}
use Rattle.purl_core.specs.Places.{AllPass, IsFirstAt}
use Rattle.purl_core.specs.Steps.Reads.{FindsFirst}

module _ (Passes : List ℕ → Type 0) (FailsAt : ℕ × List ℕ → ℕ → Type 0) where
  pub first_behind : (xs ys : List (ℕ × List ℕ)) (at : ℕ) → AllPass Passes xs → IsFirstAt Passes FailsAt ys at → IsFirstAt Passes FailsAt (xs ++ ys) at
  first_behind [] ys at pass h = h
  first_behind (x ∷ xs) ys at pass h = inr (pass.0, first_behind xs ys at pass.1 h)

  pub first_front : (xs ys : List (ℕ × List ℕ)) (at : ℕ) → IsFirstAt Passes FailsAt xs at → IsFirstAt Passes FailsAt (xs ++ ys) at
  first_front [] ys at h = absurd h
  first_front (x ∷ xs) ys at (inl h) = inl h
  first_front (x ∷ xs) ys at (inr h) = inr (h.0, first_front xs ys at h.1)

  -- what is found behind parts that pass is found in all
  pub finds_behind : (xs ys : List (ℕ × List ℕ)) (found : Option ℕ) → AllPass Passes xs → FindsFirst Passes FailsAt ys found → FindsFirst Passes FailsAt (xs ++ ys) found
  finds_behind xs ys None pass h = each_append (λ (part : ℕ × List ℕ). Passes part.1) xs ys pass h
  finds_behind xs ys (Some at) pass h = first_behind xs ys at pass h

  -- what holds of the parts that are left holds of all
  pub record Goes (all rest : List (ℕ × List ℕ)) : Type 0 where
    pub passes : AllPass Passes rest → AllPass Passes all
    pub fails : (at : ℕ) → IsFirstAt Passes FailsAt rest at → IsFirstAt Passes FailsAt all at

  pub goes_all : (all : List (ℕ × List ℕ)) → Goes all all
  goes_all all = record { passes = λ h. h; fails = λ at h. h }

  -- parts that pass are left behind
  pub goes_past : (all xs rest : List (ℕ × List ℕ)) → AllPass Passes xs → Goes all (xs ++ rest) → Goes all rest
  goes_past all xs rest pass g = record {
    passes = λ h. g.passes (each_append (λ (part : ℕ × List ℕ). Passes part.1) xs rest pass h);
    fails = λ at h. g.fails at (first_behind xs rest at pass h);
  }

  -- the first of them that fails is the first of all
  pub goes_wrong : (all xs rest : List (ℕ × List ℕ)) (at : ℕ) → IsFirstAt Passes FailsAt xs at → Goes all (xs ++ rest) → IsFirstAt Passes FailsAt all at
  goes_wrong all xs rest at h g = g.fails at (first_front xs rest at h)

  -- the end
  pub goes_through : (all rest : List (ℕ × List ℕ)) → rest ≡ [] → Goes all rest → AllPass Passes all
  goes_through all rest none g = (subst (Goes all) none g).passes tt
