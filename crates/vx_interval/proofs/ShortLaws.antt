-- Items in order, each of which is the least one of a table order-equal to it, are at most as many as the table has; so joined
-- spans have at most as many cuts as were made.
use Rattle.std.proofs.Common.{◌≡◌, ◌≤◌, ◌+◌, ℕ, Bool, true, false, cond, List, [], ◌∷◌, length, refl, ap, ◌∙◌, arith, Some, None}
use Rattle.std.specs.declared.cmp.Ordering.{Ordering}
use Rattle.std.specs.declared.cmp.Ordering.TheVariants.{Less, Equal, Greater}
use Rattle.std.specs.Ordering.{is_eq}
use Rattle.std.specs.Cmp.{IsTotalOrder}
use Rattle.std.specs.List.{AllByRecursion}
use Rattle.vx_spec.specs.Ascending.{IsAscending}
use Rattle.vx_scheme.specs.declared.span.Span.{Span}
use Rattle.vx_scheme.specs.Cuts.{cuts_of}
use Rattle.vx_line.specs.Least.{first_least}
use Rattle.vx_interval.specs.Joined.{IsJoined, made_cuts, mark_of}
use Rattle.vx_interval.proofs.SpanLaws.{cut_total}

module _ {C : Type 0} (mark : C → ℕ) {R : C → C → Ordering} (o : IsTotalOrder R) where
  -- the items that are not order-equal to x
  abbrev without : C → List C → List C
  without x [] = []
  without x (c ∷ items) = cond (is_eq (R x c)) (without x items) (c ∷ without x items)

  kept : (P : C → Type 0) (b : Bool) (c : C) (rest : List C) → P c → AllByRecursion P rest → AllByRecursion P (cond b rest (c ∷ rest))
  kept P true c rest p h = h
  kept P false c rest p h = (p, h)

  all_kept : (P : C → Type 0) (x : C) (items : List C) → AllByRecursion P items → AllByRecursion P (without x items)
  all_kept P x [] h = tt
  all_kept P x (c ∷ items) h = kept P (is_eq (R x c)) c (without x items) h.0 (all_kept P x items h.1)

  rises_kept : (b : Bool) (c : C) (rest : List C) → AllByRecursion (λ d. R c d ≡ Less) rest → IsAscending R rest → IsAscending R (cond b rest (c ∷ rest))
  rises_kept true c rest above s = s
  rises_kept false c rest above s = (above, s)

  rises : (x : C) (items : List C) → IsAscending R items → IsAscending R (without x items)
  rises x [] s = tt
  rises x (c ∷ items) s = rises_kept (is_eq (R x c)) c (without x items) (all_kept (λ d. R c d ≡ Less) x items s.0) (rises x items s.1)

  -- what lies above an item that is order-equal to x is not
  over_level : (x c d : C) (r : Ordering) → R x c ≡ r → is_eq r ≡ true → R c d ≡ Less → is_eq (R x d) ≡ false
  over_level x c d Less e t l = absurd (cc)
  over_level x c d Greater e t l = absurd (cc)
  over_level x c d Equal e t l = ap is_eq (o.congr x c d e ∙ l)

  all_over : (x c : C) (items : List C) → is_eq (R x c) ≡ true → AllByRecursion (λ d. R c d ≡ Less) items → without x items ≡ items
  all_over x c [] t h = refl
  all_over x c (d ∷ items) t h = rw (over_level x c d (R x c) refl t h.0) (ap (λ rest. d ∷ rest) (all_over x c items t h.1))

  -- of items in order one at most is order-equal to x
  one_less : (x c : C) (items : List C) (b : Bool) → is_eq (R x c) ≡ b → AllByRecursion (λ d. R c d ≡ Less) items
      → length items ≤ length (without x items) + 1 → length (c ∷ items) ≤ length (cond b (without x items) (c ∷ without x items)) + 1
  one_less x c items true t above rest = let same = ap length (all_over x c items t above) in omega (arith, same)
  one_less x c items false t above rest = omega (arith, rest)

  one_at_most : (x : C) (items : List C) → IsAscending R items → length items ≤ length (without x items) + 1
  one_at_most x [] s = omega arith
  one_at_most x (c ∷ items) s = one_less x c items (is_eq (R x c)) refl s.0 (one_at_most x items s.1)

  -- ---- items that the table has
  abbrev IsFound : List C → C → Type 0
  IsFound table c = first_least mark R c table ≡ None → ⊥

  found_more : (x c : C) (table : List C) → is_eq (R x c) ≡ false → IsFound (x ∷ table) c → IsFound table c
  found_more x c table other found none = found (rw other none)

  found_kept : (x c : C) (table rest : List C) (b : Bool) → is_eq (R x c) ≡ b → IsFound (x ∷ table) c → AllByRecursion (IsFound table) rest
      → AllByRecursion (IsFound table) (cond b rest (c ∷ rest))
  found_kept x c table rest true e found h = h
  found_kept x c table rest false e found h = (found_more x c table e found, h)

  all_found : (x : C) (table items : List C) → AllByRecursion (IsFound (x ∷ table)) items → AllByRecursion (IsFound table) (without x items)
  all_found x table [] h = tt
  all_found x table (c ∷ items) h = found_kept x c table (without x items) (is_eq (R x c)) refl h.0 (all_found x table items h.1)

  pub few_found : (table items : List C) → IsAscending R items → AllByRecursion (IsFound table) items → length items ≤ length table
  few_found [] [] s h = omega arith
  few_found [] (c ∷ items) s h = absurd (h.0 refl)
  few_found (x ∷ table) items s h =
      let rest = few_found table (without x items) (rises x items s) (all_found x table items h) in
      let one = one_at_most x items s in
      omega (arith, rest, one)

  own_found : (table items : List C) → AllByRecursion (λ c. first_least mark R c table ≡ Some c) items → AllByRecursion (IsFound table) items
  own_found table [] h = tt
  own_found table (c ∷ items) h = (λ none. absurd (cc (h.0, none)), own_found table items h.1)

  pub few_least : (table items : List C) → IsAscending R items → AllByRecursion (λ c. first_least mark R c table ≡ Some c) items → length items ≤ length table
  few_least table items s h = few_found table items s (own_found table items h)

-- joined spans have at most as many cuts as were made
pub joined_is_short : {V : Type 0} {order : V → V → Ordering} (o : IsTotalOrder order) (bounds : List (List (List (Span V)))) (spans : List (Span V))
    → IsJoined order bounds spans → length (cuts_of spans) ≤ length (made_cuts bounds)
joined_is_short o bounds spans j = few_least mark_of (cut_total o) (made_cuts bounds) (cuts_of spans) j.in_order.rising j.carried
