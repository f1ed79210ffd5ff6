-- What lies below a place of the line.
use Rattle.std.proofs.Common.{◌≡◌, Bool, true, false, not, cond, List, [], ◌∷◌, refl}
use Rattle.std.specs.declared.cmp.Ordering.{Ordering}
use Rattle.std.specs.declared.cmp.Ordering.TheVariants.{Less}
use Rattle.std.specs.List.{AllByRecursion}
use Rattle.vx_line.specs.Line.{IsPlace, is_in}

module _ {C : Type 0} {R : C → C → Ordering} {below : C → Bool} (place : IsPlace R below) where
  -- nothing changes behind a cut that is not below
  pub none_below : (c : C) (starts : Bool) (cuts : List C) → AllByRecursion (λ d. R c d ≡ Less) cuts → below c ≡ false → is_in below starts cuts ≡ starts
  none_below c starts [] h n = refl
  none_below c starts (d ∷ cuts) h n = rw (place.upward c d h.0 n) refl

-- at the other truth value below the first cut, the answer turns
pub is_in-not : {C : Type 0} → (below : C → Bool) (starts : Bool) (cuts : List C) → is_in below (not starts) cuts ≡ not (is_in below starts cuts)
is_in-not below starts [] = refl
is_in-not below starts (c ∷ cuts) = turned (below c) (is_in-not below (not starts) cuts)
  where
    turned : (b : Bool) → is_in below (not (not starts)) cuts ≡ not (is_in below (not starts) cuts) → cond b (is_in below (not (not starts)) cuts) (not starts) ≡ not (cond b (is_in below (not starts) cuts) starts)
    turned true e = e
    turned false e = refl
