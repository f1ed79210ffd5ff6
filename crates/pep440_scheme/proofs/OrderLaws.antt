-- The lists of a key compare as the numbers and the identifiers that they are made of.
use Rattle.std.proofs.Common.{◌≡◌, ℕ, List, [], ◌∷◌, map, Ordering, Less, Equal, Greater, refl}
use Rattle.std.specs.Ordering.{nat_cmp, ordering_then}
use Rattle.vx_spec.specs.Rows.{rows_cmp}
use Rattle.vx_scheme.specs.declared.ident.Ident.{Ident}
use Rattle.vx_scheme.specs.declared.ident.Ident.TheVariants.{Number, Word}
use Rattle.vx_order.specs.Idents.{entry, entry_cmp, idents_cmp, idents_key}
use Rattle.vx_order.specs.Letters.{end_letter, letter_cmp, letters_cmp}
use Rattle.vx_order.specs.declared.idents.IdentRule.{IdentRule}
use Rattle.vx_order.specs.declared.idents.NumberPlace.TheVariants.{AboveWords}
use Rattle.vx_order.specs.declared.idents.WordOrder.TheVariants.{Exact}
use Rattle.vx_order.specs.declared.idents.EmptyPlace.TheVariants.{Lowest}
use Rattle.pep440_scheme.specs.Order.{end_rank, local_letter, number_letter}

pub then_equal : (r : Ordering) → ordering_then r Equal ≡ r
then_equal Less = refl
then_equal Equal = refl
then_equal Greater = refl

-- ---- releases

pub release_rows : (xs ys : List ℕ) → rows_cmp nat_cmp 0 xs ys ≡ letters_cmp end_rank (map number_letter xs) (map number_letter ys)
release_rows [] [] = refl
release_rows [] (y ∷ ys) = rw (release_rows [] ys, then_equal (nat_cmp 0 y)) refl
release_rows (x ∷ xs) [] = rw (release_rows xs [], then_equal (nat_cmp x 0)) refl
release_rows (x ∷ xs) (y ∷ ys) = rw (release_rows xs ys, then_equal (nat_cmp x y)) refl

-- ---- local version labels

abbrev pub local_rule : IdentRule
local_rule = record { numbers = AboveWords; words = Exact; empty = Lowest }

local_key : (idents : List Ident) → idents_key local_rule idents ≡ map (entry local_rule) idents
local_key [] = refl
local_key (ident ∷ idents) = refl

same_letters : (x y : Ident) → entry_cmp (entry local_rule x) (entry local_rule y) ≡ letter_cmp (local_letter x) (local_letter y)
same_letters (Number n) (Number m) = refl
same_letters (Number n) (Word w) = refl
same_letters (Word v) (Number m) = refl
same_letters (Word v) (Word w) = refl

below_end : (y : Ident) → entry_cmp [] (entry local_rule y) ≡ letter_cmp (end_letter end_rank) (local_letter y)
below_end (Number n) = refl
below_end (Word w) = refl

above_end : (x : Ident) → entry_cmp (entry local_rule x) [] ≡ letter_cmp (local_letter x) (end_letter end_rank)
above_end (Number n) = refl
above_end (Word w) = refl

local_rows : (xs ys : List Ident) → rows_cmp entry_cmp [] (map (entry local_rule) xs) (map (entry local_rule) ys) ≡ letters_cmp end_rank (map local_letter xs) (map local_letter ys)
local_rows [] [] = refl
local_rows [] (y ∷ ys) = rw (local_rows [] ys, below_end y) refl
local_rows (x ∷ xs) [] = rw (local_rows xs [], above_end x) refl
local_rows (x ∷ xs) (y ∷ ys) = rw (local_rows xs ys, same_letters x y) refl

pub locals_compare : (xs ys : List Ident) → idents_cmp local_rule xs ys ≡ letters_cmp end_rank (map local_letter xs) (map local_letter ys)
locals_compare xs ys = rw (local_key xs, local_key ys) (local_rows xs ys)
