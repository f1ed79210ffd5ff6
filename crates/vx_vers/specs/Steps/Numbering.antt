-- Constraints with their numbers in the text, and the least number of one that stands behind an order-equal one.
use Rattle.std.specs.Prelude.{◌≡◌, ◌<◌, ◌≤◌, ◌+◌, ◌++◌, ◌&&◌, Bool, true, Contains, IsPermutation, ℕ, List, [], ◌∷◌, Option, Some, None, Result, Ok, Err, length, map, nat_lt, sum_by, ◌==◌, if◌then◌else◌}
use Rattle.std.specs.Ordering.{is_eq, is_lt, ordering_then, nat_cmp}
use Rattle.std.specs.declared.cmp.Ordering.{Ordering}
use Rattle.std.specs.declared.cmp.Ordering.TheVariants.{Equal}
use Rattle.vx_vers.specs.declared.constraints.Constraint.{Constraint}
use Rattle.vx_vers.specs.declared.fault.VersFault.{VersFault}
use Rattle.vx_vers.specs.declared.fault.VersFault.TheVariants as fault_of
use Rattle.vx_vers.specs.declared.sorting.Numbered.{Numbered}
use Rattle.vx_vers.specs.Refusals.{IsFirstDuplicate}
use Rattle.vx_vers.specs.Steps.Reading.{Refused}
use Rattle.vx_vers.specs.Sorted.{IsSorted, version_cmp}

-- each constraint of a list behind one is below the next one
abbrev pub rises_behind : {V : Type 0} → (V → V → Ordering) → Constraint V → List (Constraint V) → Bool
rises_behind order before [] = true
rises_behind order before (c ∷ list) = is_lt (version_cmp order before c) && rises_behind order c list

-- each constraint of the list is below the next one
abbrev pub rises : {V : Type 0} → (V → V → Ordering) → List (Constraint V) → Bool
rises order [] = true
rises order (c ∷ list) = rises_behind order c list

-- the constraints without their numbers
abbrev pub constraints_of : {V : Type 0} → List (Numbered V) → List (Constraint V)
constraints_of items = map (λ item. item.constraint) items

abbrev pub has_number : {V : Type 0} → ℕ → Numbered V → ℕ
has_number n item = if item.number == n then 1 else 0

-- no number stands twice
abbrev pub Once : {V : Type 0} → List (Numbered V) → Type 0
Once items = (n : ℕ) → sum_by (has_number n) items ≤ 1

-- by version, and order-equal ones by number
abbrev pub numbered_cmp : {V : Type 0} → (V → V → Ordering) → Numbered V → Numbered V → Ordering
numbered_cmp order a b = ordering_then (order a.constraint.version b.constraint.version) (nat_cmp a.number b.number)

-- the items are numbered one after the other, from this number on
abbrev pub Counted : {V : Type 0} → ℕ → List (Numbered V) → Type 0
Counted k [] = Unit {0}
Counted k (item ∷ items) = (item.number ≡ k) × Counted (k + 1) items

-- The items are the last constraints of a list with their numbers, in some order, and the front of it is left.
pub record AreTaken {V : Type 0} (list left : List (Constraint V)) (items : List (Numbered V)) : Type 0 where
  pub behind : List (Numbered V)
  pub joined : left ++ constraints_of behind ≡ list
  pub counted : Counted (length left + 1) behind
  pub same : IsPermutation behind items

-- the lower of the number and the least so far, if there is one
abbrev pub lower : Option ℕ → ℕ → ℕ
lower None number = number
lower (Some least) number = if nat_lt least number then least else number

-- the least so far, with one item more, which stands behind another
abbrev pub least_next : {V : Type 0} → (V → V → Ordering) → Numbered V → Numbered V → Option ℕ → Option ℕ
least_next order before item least = if is_eq (order before.constraint.version item.constraint.version) then Some (lower least item.number) else least

-- the least so far, with the items behind one
abbrev pub least_behind : {V : Type 0} → (V → V → Ordering) → Numbered V → Option ℕ → List (Numbered V) → Option ℕ
least_behind order before least [] = least
least_behind order before least (item ∷ items) = least_behind order item (least_next order before item least) items

-- the least number of an item that is order-equal to the one before it
abbrev pub least_twice : {V : Type 0} → (V → V → Ordering) → List (Numbered V) → Option ℕ
least_twice order [] = None
least_twice order (item ∷ items) = least_behind order item None items

-- an item with this number is order-equal to one with a lower number
pub record IsTwice {V : Type 0} (order : V → V → Ordering) (items : List (Numbered V)) (number : ℕ) : Type 0 where
  pub earlier : Numbered V
  pub later : Numbered V
  pub earlier_in : Contains items earlier
  pub later_in : Contains items later
  pub below : earlier.number < later.number
  pub equal : order earlier.constraint.version later.constraint.version ≡ Equal
  pub is : later.number ≡ number

-- and it is the least such number
pub record IsLeastTwice {V : Type 0} (order : V → V → Ordering) (items : List (Numbered V)) (number : ℕ) : Type 0 where
  pub twice : IsTwice order items number
  pub least : (other : ℕ) → IsTwice order items other → number ≤ other

-- the constraints sorted, no two of them order-equal, or the first that is order-equal to an earlier one
abbrev pub IsSettledAs : {V : Type 0} → (V → V → Ordering) → List (Constraint V) → Result (List (Constraint V)) VersFault → Type 0
IsSettledAs order constraints (Ok list) = IsPermutation constraints list × IsSorted order list
IsSettledAs order constraints (Err fault) = Refused (λ f. (number : ℕ) × (f ≡ fault_of.Duplicate number) × IsFirstDuplicate order constraints number) fault
