-- What a merge of two lists of cuts answers, and that this determines it.
use Rattle.std.proofs.Common.{ℕ, ◌≡◌, ◌≢◌, Bool, false, List, [], ◌∷◌, None, refl, sym, ap, ◌∙◌, inl, inr, All, Contains}
use Rattle.std.specs.declared.cmp.Ordering.{Ordering}
use Rattle.std.specs.declared.cmp.Ordering.TheVariants.{Less, Equal, Greater}
use Rattle.std.specs.Ordering.{is_eq}
use Rattle.std.specs.Cmp.{IsTotalOrder}
use Rattle.std.specs.List.{AllByRecursion}
use Rattle.std.proofs.lemmas.List.Elements.{All-from_recursion, recursion_from_All, All-contains, All-contains_itself}
use Rattle.std.proofs.lemmas.Cmp.{tied_back}
use Rattle.vx_spec.specs.Ascending.{IsAscending}
use Rattle.vx_line.specs.Line.{IsFirstKept, IsLevel, IsMerged, is_in, join_by}
use Rattle.vx_line.specs.Least.{first_least}
use Rattle.vx_line.specs.Steps.Merges.{merge_by}
use Rattle.vx_line.proofs.LeastLaws.{unlevel}
use Rattle.vx_line.proofs.InOrder.{merge_in_order}
use Rattle.vx_line.proofs.Merging.{merge_means}
use Rattle.vx_line.proofs.Unique.{unique}
use Rattle.vx_line.proofs.Keeping.{All-first_kept}

not_equal : (r : Ordering) → is_eq r ≡ false → r ≢ Equal
not_equal Less e = λ n. cc
not_equal Equal e = absurd (cc)
not_equal Greater e = λ n. cc

module _ {C : Type 0} {R : C → C → Ordering} (o : IsTotalOrder R) where
  no_mark : C → ℕ
  no_mark c = 0

  none_equal : (c : C) (xs : List C) → first_least no_mark R c xs ≡ None → AllByRecursion (λ d. R d c ≢ Equal) xs
  none_equal c [] n = tt
  none_equal c (d ∷ xs) n =
      let parts = unlevel no_mark o c d (is_eq (R d c)) (first_least no_mark R c xs) refl n in
      (not_equal (R d c) parts.0, none_equal c xs parts.1)

  every : {P Q : C → Type 0} → ((c : C) → P c → Q c) → (xs : List C) → AllByRecursion P xs → AllByRecursion Q xs
  every f [] h = tt
  every f (x ∷ xs) h = (f x h.0, every f xs h.1)

  pub merge_kept : (op : Bool → Bool → Bool) (p : Bool) (xs : List C) (q : Bool) (ys : List C) → IsAscending R xs → IsAscending R ys → All (IsFirstKept R xs ys) (merge_by R op p xs q ys)
  merge_kept op p xs q ys s t =
      All-from_recursion (IsFirstKept R xs ys) (merge_by R op p xs q ys)
      (All-first_kept no_mark o (IsFirstKept R xs ys) op p xs q ys s t
      (every (λ c h. inl h) xs (recursion_from_All (Contains xs) xs (All-contains_itself xs)))
      (every (λ c h n. inr (h, All-from_recursion (λ d. R d c ≢ Equal) xs (none_equal c xs n))) ys (recursion_from_All (Contains ys) ys (All-contains_itself ys))))

  -- a merge by an operation that answers what `both` asks for
  pub merge_merged : (op : Bool → Bool → Bool) (both : Bool) → ((p q : Bool) → op p q ≡ join_by both p q) → (p : Bool) (xs : List C) (q : Bool) (ys : List C) → IsAscending R xs → IsAscending R ys → IsMerged R both p xs q ys (merge_by R op p xs q ys)
  merge_merged op both same p xs q ys s t = record {
    rising = merge_in_order o op p xs q ys s t;
    pieces = λ below place.
        ap (λ b. is_in below b (merge_by R op p xs q ys)) (sym (same p q))
        ∙ merge_means o place op p xs q ys s t
        ∙ same (is_in below p xs) (is_in below q ys);
    kept = merge_kept op p xs q ys s t;
  }

  -- ---- what a merge answers is determined
  not_same : (x c : C) → R x c ≡ Less → R x c ≡ Equal → x ≡ c
  not_same x c l e = absurd (cc (l, e))

  apart_from : (x : C) (xs : List C) → AllByRecursion (λ d. R x d ≡ Less) xs → AllByRecursion (λ d. R x d ≡ Equal → x ≡ d) xs
  apart_from x xs h = every (λ d l e. not_same x d l e) xs h

  more_rows : (x : C) (xs rows : List C) → AllByRecursion (λ d. R x d ≡ Less) rows → AllByRecursion (λ c. AllByRecursion (λ d. R c d ≡ Equal → c ≡ d) xs) rows → AllByRecursion (λ c. AllByRecursion (λ d. R c d ≡ Equal → c ≡ d) (x ∷ xs)) rows
  more_rows x xs [] h g = tt
  more_rows x xs (c ∷ rows) h g = ((λ e. sym (not_same x c h.0 (tied_back o c x e)), g.0), more_rows x xs rows h.1 g.1)

  -- in order, items that are order-equal are the same
  rows_same : (xs : List C) → IsAscending R xs → AllByRecursion (λ c. AllByRecursion (λ d. R c d ≡ Equal → c ≡ d) xs) xs
  rows_same [] s = tt
  rows_same (x ∷ xs) s = ((λ e. refl, apart_from x xs s.0), more_rows x xs xs s.0 (rows_same xs s.1))

  one_of_class : (xs : List C) → IsAscending R xs → (c d : C) → Contains xs c → Contains xs d → R c d ≡ Equal → c ≡ d
  one_of_class xs s c d here there =
      let row = All-contains (λ c. AllByRecursion (λ d. R c d ≡ Equal → c ≡ d) xs) xs c (All-from_recursion (λ c. AllByRecursion (λ d. R c d ≡ Equal → c ≡ d) xs) xs (rows_same xs s)) here in
      All-contains (λ d. R c d ≡ Equal → c ≡ d) xs d (All-from_recursion (λ d. R c d ≡ Equal → c ≡ d) xs row) there

  same_kept : (xs ys : List C) → IsAscending R xs → IsAscending R ys → (c d : C) → IsFirstKept R xs ys c → IsFirstKept R xs ys d → R c d ≡ Equal → c ≡ d
  same_kept xs ys s t c d (inl here) (inl there) e = one_of_class xs s c d here there e
  same_kept xs ys s t c d (inl here) (inr there) e = absurd (All-contains (λ z. R z d ≢ Equal) xs c there.1 here e)
  same_kept xs ys s t c d (inr here) (inl there) e = absurd (All-contains (λ z. R z c ≢ Equal) xs d here.1 there (tied_back o c d e))
  same_kept xs ys s t c d (inr here) (inr there) e = one_of_class ys t c d here.0 there.0 e

  all_same : (xs ys : List C) → IsAscending R xs → IsAscending R ys → (cs ds : List C) → IsLevel R cs ds → AllByRecursion (IsFirstKept R xs ys) cs → AllByRecursion (IsFirstKept R xs ys) ds → cs ≡ ds
  all_same xs ys s t [] [] l h g = refl
  all_same xs ys s t [] (d ∷ ds) l h g = absurd l
  all_same xs ys s t (c ∷ cs) [] l h g = absurd l
  all_same xs ys s t (c ∷ cs) (d ∷ ds) l h g =
      let one : c ≡ d = same_kept xs ys s t c d h.0 g.0 l.0 in
      let rest = all_same xs ys s t cs ds l.1 h.1 g.1 in
      λ i. one i ∷ rest i

  pub merged_unique : (both p : Bool) (xs : List C) (q : Bool) (ys cs ds : List C) → IsAscending R xs → IsAscending R ys → IsMerged R both p xs q ys cs → IsMerged R both p xs q ys ds → cs ≡ ds
  merged_unique both p xs q ys cs ds s t m n =
      all_same xs ys s t cs ds
      (unique o (join_by both p q) cs ds m.rising n.rising (λ below place. m.pieces below place ∙ sym (n.pieces below place)))
      (recursion_from_All (IsFirstKept R xs ys) cs m.kept) (recursion_from_All (IsFirstKept R xs ys) ds n.kept)
