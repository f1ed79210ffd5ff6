-- What lies above one cut of a line lies above a lower or an order-equal one.
use Rattle.std.proofs.Common.{◌≡◌, List, [], ◌∷◌, ◌∙◌}
use Rattle.std.specs.declared.cmp.Ordering.{Ordering}
use Rattle.std.specs.declared.cmp.Ordering.TheVariants.{Less, Equal}
use Rattle.std.specs.Cmp.{IsTotalOrder}
use Rattle.std.specs.List.{AllByRecursion}

module _ {C : Type 0} {R : C → C → Ordering} (o : IsTotalOrder R) where
  pub above_lower : (c d : C) (list : List C) → R c d ≡ Less → AllByRecursion (λ e. R d e ≡ Less) list → AllByRecursion (λ e. R c e ≡ Less) list
  above_lower c d [] l h = tt
  above_lower c d (e ∷ list) l h = (o.trans c d e l h.0, above_lower c d list l h.1)

  pub above_alike : (c d : C) (list : List C) → R c d ≡ Equal → AllByRecursion (λ e. R d e ≡ Less) list → AllByRecursion (λ e. R c e ≡ Less) list
  above_alike c d [] l h = tt
  above_alike c d (e ∷ list) l h = (o.congr c d e l ∙ h.0, above_alike c d list l h.1)
