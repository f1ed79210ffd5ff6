-- The order of letters is total and tells all letters apart, and so does that of lists up to the end letters at their
-- ends.
use Rattle.std.proofs.Common.{◌≡◌, ℕ, List, [], ◌∷◌, Ordering, Less, Equal, Greater, refl, sym, ap, ◌∙◌}
use Rattle.std.specs.Cmp.{IsTotalOrder, nat_cmp_total, on_total, tied_back, tied_itself}
use Rattle.std.specs.Cmp.Lexicographic.{slice_cmp}
use Rattle.std.specs.Ordering.{nat_cmp, ordering_then, is_eq}
use Rattle.std.proofs.lemmas.Cmp.{lists_total, then_total, ranked}
use Rattle.vx_spec.proofs.RowLaws.{rows_total}
use Rattle.vx_order.specs.declared.letter.Letter.{Letter}
use Rattle.vx_order.specs.Letters.{letter_cmp, end_letter, letters_cmp, letter_before, without_end_letters}

pub letter_total : IsTotalOrder letter_cmp
letter_total = then_total (on_total (λ (l : Letter). l.rank) nat_cmp_total) (then_total (on_total (λ (l : Letter). l.number) nat_cmp_total) (on_total {J = List ℕ} (λ (l : Letter). l.text) (lists_total nat_cmp_total)))

pub letters_total : (end_rank : ℕ) → IsTotalOrder (letters_cmp end_rank)
letters_total end_rank = rows_total letter_cmp letter_total (end_letter end_rank)

-- two answers in a row are `Equal` only where both are
then_equal : (r s : Ordering) → ordering_then r s ≡ Equal → (r ≡ Equal) × (s ≡ Equal)
then_equal Less s e = cc
then_equal Equal s e = (refl, e)
then_equal Greater s e = cc

same_numbers : (x y : ℕ) → nat_cmp x y ≡ Equal → x ≡ y
same_numbers x y e = ranked x y Equal (sym e)

same_texts : (xs ys : List ℕ) → slice_cmp nat_cmp xs ys ≡ Equal → xs ≡ ys
same_texts [] [] e = refl
same_texts [] (y ∷ ys) e = cc
same_texts (x ∷ xs) [] e = cc
same_texts (x ∷ xs) (y ∷ ys) e =
    let h = then_equal (nat_cmp x y) (slice_cmp nat_cmp xs ys) e in
    let p = same_numbers x y h.0 in
    let q = same_texts xs ys h.1 in
    cc

pub same_letters : (x y : Letter) → letter_cmp x y ≡ Equal → x ≡ y
same_letters x y e =
    let h = then_equal (nat_cmp x.rank y.rank) _ e in
    let k = then_equal (nat_cmp x.number y.number) _ h.1 in
    let p = same_numbers x.rank y.rank h.0 in
    let q = same_numbers x.number y.number k.0 in
    let s = same_texts x.text y.text k.1 in
    λ i. record { rank = p i; number = q i; text = s i }

-- a list is as good as the one without its end letters
letter_before_alike : (end_rank : ℕ) (x : Letter) (xs ys : List Letter) (r : Ordering) → letter_cmp x (end_letter end_rank) ≡ r → letters_cmp end_rank xs ys ≡ Equal → letters_cmp end_rank (x ∷ xs) (letter_before (is_eq r) x ys) ≡ Equal
letter_before_alike end_rank x xs [] Less e h = rw (tied_itself letter_total x) h
letter_before_alike end_rank x xs [] Equal e h = rw e h
letter_before_alike end_rank x xs [] Greater e h = rw (tied_itself letter_total x) h
letter_before_alike end_rank x xs (y ∷ ys) r e h = rw (tied_itself letter_total x) h

ended_alike : (end_rank : ℕ) (xs : List Letter) → letters_cmp end_rank xs (without_end_letters end_rank xs) ≡ Equal
ended_alike end_rank [] = refl
ended_alike end_rank (x ∷ xs) = letter_before_alike end_rank x xs (without_end_letters end_rank xs) (letter_cmp x (end_letter end_rank)) refl (ended_alike end_rank xs)

-- lists that are equal without their end letters compare as equal
pub equal_by_ended : (end_rank : ℕ) (xs ys : List Letter) → without_end_letters end_rank xs ≡ without_end_letters end_rank ys → letters_cmp end_rank xs ys ≡ Equal
equal_by_ended end_rank xs ys e =
    let t = letters_total end_rank in
    let p = t.congr xs (without_end_letters end_rank xs) ys (ended_alike end_rank xs) in
    let q = tied_back t ys (without_end_letters end_rank ys) (ended_alike end_rank ys) in
    p ∙ ap (λ w. letters_cmp end_rank w ys) e ∙ q

-- and the other way round
pub equal_without_end : (end_rank : ℕ) (xs ys : List Letter) → letters_cmp end_rank xs ys ≡ Equal → without_end_letters end_rank xs ≡ without_end_letters end_rank ys
equal_without_end end_rank [] [] e = refl
equal_without_end end_rank [] (y ∷ ys) e =
    let h = then_equal (letter_cmp (end_letter end_rank) y) (letters_cmp end_rank [] ys) e in
    rw (tied_back letter_total (end_letter end_rank) y h.0, ← equal_without_end end_rank [] ys h.1)
equal_without_end end_rank (x ∷ xs) [] e =
    let h = then_equal (letter_cmp x (end_letter end_rank)) (letters_cmp end_rank xs []) e in
    rw (h.0, equal_without_end end_rank xs [] h.1)
equal_without_end end_rank (x ∷ xs) (y ∷ ys) e =
    let h = then_equal (letter_cmp x y) (letters_cmp end_rank xs ys) e in
    let p = same_letters x y h.0 in
    let q = equal_without_end end_rank xs ys h.1 in
    ap (λ w. letter_before (is_eq (letter_cmp w (end_letter end_rank))) w (without_end_letters end_rank xs)) p ∙ ap (letter_before (is_eq (letter_cmp y (end_letter end_rank))) y) q
