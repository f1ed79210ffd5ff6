-- Cuts of a line, as items C under an order R, and what lies between them.
use Rattle.std.specs.Prelude.{◌≡◌, ◌≢◌, ◌⊎◌, Bool, true, false, ◌&&◌, ◌||◌, not, cond, List, [], ◌∷◌, All, Contains}
use Rattle.std.specs.Ordering.{is_gt}
use Rattle.std.specs.declared.cmp.Ordering.{Ordering}
use Rattle.std.specs.declared.cmp.Ordering.TheVariants.{Less, Equal}
use Rattle.vx_spec.specs.Ascending.{IsAscending}

-- A place of the line, by which cuts lie below it: what is above a cut that does not lie below it does not either,
-- and order-equal cuts are alike.
pub record IsPlace {C : Type 0} (R : C → C → Ordering) (below : C → Bool) : Type 0 where
  pub upward : (c d : C) → R c d ≡ Less → below c ≡ false → below d ≡ false
  pub alike : (c d : C) → R c d ≡ Equal → below c ≡ below d

-- Whether the piece at a place is in: each cut changes in to out or out to in, and `starts` says whether the piece
-- below the first cut is in.
abbrev pub is_in : {C : Type 0} → (C → Bool) → Bool → List C → Bool
is_in below starts [] = starts
is_in below starts (c ∷ cuts) = cond (below c) (is_in below (not starts) cuts) starts

-- in both of two, or in one of them
abbrev pub join_by : Bool → Bool → Bool → Bool
join_by true p q = p && q
join_by false p q = p || q

-- the item is one of the first list, or one of the second that is order-equal to none of the first
abbrev pub IsFirstKept : {C : Type 0} → (C → C → Ordering) → List C → List C → C → Type 0
IsFirstKept R first second c = Contains first c ⊎ (Contains second c × All (λ d. R d c ≢ Equal) first)

-- The cuts at which "in one of the two" changes, or "in both": they rise, at each place they say what the two lists
-- say together, and of two order-equal cuts the one of the first list is kept.
pub record IsMerged {C : Type 0} (R : C → C → Ordering) (both first_starts : Bool) (first : List C) (second_starts : Bool) (second cuts : List C) : Type 0 where
  pub rising : IsAscending R cuts
  pub pieces : (below : C → Bool) → IsPlace R below → is_in below (join_by both first_starts second_starts) cuts ≡ join_by both (is_in below first_starts first) (is_in below second_starts second)
  pub kept : All (IsFirstKept R first second) cuts

-- the lists are order-equal item by item
abbrev pub IsLevel : {C : Type 0} → (C → C → Ordering) → List C → List C → Type 0
IsLevel R [] [] = Unit {0}
IsLevel R [] (d ∷ ds) = ⊥
IsLevel R (c ∷ cs) [] = ⊥
IsLevel R (c ∷ cs) (d ∷ ds) = (R c d ≡ Equal) × IsLevel R cs ds

-- c where the answer changes from x to y
abbrev pub emit : {C : Type 0} → Bool → Bool → C → List C → List C
emit true true c list = list
emit false false c list = list
emit true false c list = c ∷ list
emit false true c list = c ∷ list

-- The cuts of a line at which a test of pieces changes, where `before` says what it answers below them. The piece
-- above a cut is judged at the place directly above that cut.
abbrev pub judged : {C : Type 0} → (C → C → Ordering) → ((C → Bool) → Bool) → Bool → List C → List C
judged R test before [] = []
judged R test before (c ∷ line) = emit before (test (λ d. not (is_gt (R d c)))) c (judged R test (test (λ d. not (is_gt (R d c)))) line)
