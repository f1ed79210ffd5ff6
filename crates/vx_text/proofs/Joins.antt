-- Texts joined of parts by a mark, and cut again.
use Rattle.std.proofs.Common.{◌≡◌, ◌≢◌, ◌<◌, ◌++◌, eqb, ℕ, true, false, List, [], ◌∷◌, length, refl, ap, ◌∙◌, Option, Some, None, arith, inl, inr, append-nil}
use Rattle.std.specs.List.{AllByRecursion, join_with_byte, onto_first, slice_split}
use Rattle.std.proofs.lemmas.Bool.{cases_Bool, eqb-false, ne_eqb}
use Rattle.std.proofs.lemmas.Bool.Decides.{nat_tests}
use Rattle.std.proofs.lemmas.List.Splits.{slice_split_none, slice_split_at, length-slice_split}
use Rattle.std.proofs.lemmas.List.Elements.{All-from_recursion}
use Rattle.vx_spec.specs.Marks.{IsCut, Lacks, marked}
use Rattle.vx_spec.proofs.EndLaws.{lacks_append}

-- a joined text lacks what its parts and its mark are not
pub join_lacks : (mark c : ℕ) (xs : List (List ℕ)) → mark ≢ c → AllByRecursion (Lacks c) xs → Lacks c (join_with_byte mark xs)
join_lacks mark c [] other all = tt
join_lacks mark c (x ∷ []) other all = all.0
join_lacks mark c (x ∷ y ∷ xs) other all = lacks_append c x _ all.0 (other, join_lacks mark c (y ∷ xs) other all.1)

pub marked_lacks : (mark c : ℕ) (x : Option (List ℕ)) → mark ≢ c → ((t : List ℕ) → x ≡ Some t → Lacks c t) → Lacks c (marked mark x)
marked_lacks mark c None other h = tt
marked_lacks mark c (Some t) other h = (other, h t refl)

not_mark : (c : ℕ) (t : List ℕ) → Lacks c t → AllByRecursion (λ b. eqb b c ≡ false) t
not_mark c [] h = tt
not_mark c (x ∷ t) h = (ne_eqb x c h.0, not_mark c t h.1)

same_byte : (c : ℕ) → eqb c c ≡ true
same_byte c = grind (arith, nat_tests)

-- a text that lacks the mark is one part
pub split_whole : (c : ℕ) (text : List ℕ) → Lacks c text → slice_split (λ b. eqb b c) text ≡ text ∷ []
split_whole c text h = slice_split_none _ text (All-from_recursion (λ b. eqb b c ≡ false) text (not_mark c text h))

-- the first part ends at the first mark
pub split_first : (c : ℕ) (front text : List ℕ) → Lacks c front → slice_split (λ b. eqb b c) (front ++ c ∷ text) ≡ front ∷ slice_split (λ b. eqb b c) text
split_first c front text h =
    slice_split_at (λ b. eqb b c) front c text (All-from_recursion (λ b. eqb b c ≡ false) front (not_mark c front h)) (same_byte c)

-- cutting undoes joining
pub split_join : (c : ℕ) (x : List ℕ) (xs : List (List ℕ)) → AllByRecursion (Lacks c) (x ∷ xs) → slice_split (λ b. eqb b c) (join_with_byte c (x ∷ xs)) ≡ x ∷ xs
split_join c x [] h = split_whole c x h.0
split_join c x (y ∷ ys) h = split_first c x (join_with_byte c (y ∷ ys)) h.0 ∙ ap (λ (r : List (List ℕ)). x ∷ r) (split_join c y ys h.1)

-- the parts of what stands behind a mark, if it is there
abbrev pub parts_behind : ℕ → Option (List ℕ) → List (List ℕ)
parts_behind c None = []
parts_behind c (Some text) = slice_split (λ b. eqb b c) text

-- the parts of a cut text are its front and the parts behind
pub split_cut : (c : ℕ) (text front : List ℕ) (behind : Option (List ℕ)) → IsCut c text front behind → slice_split (λ b. eqb b c) text ≡ front ∷ parts_behind c behind
split_cut c text front None cut = ap (slice_split (λ b. eqb b c)) (cut.joined ∙ append-nil front) ∙ split_whole c front cut.first
split_cut c text front (Some rest) cut = ap (slice_split (λ b. eqb b c)) cut.joined ∙ split_first c front rest cut.first

onto_lacks : (c b : ℕ) (parts : List (List ℕ)) → b ≢ c → AllByRecursion (Lacks c) parts → AllByRecursion (Lacks c) (onto_first b parts)
onto_lacks c b [] other all = ((other, tt), tt)
onto_lacks c b (part ∷ parts) other all = ((other, all.0), all.1)

-- each part lacks the mark
pub split_lacks : (c : ℕ) (text : List ℕ) → AllByRecursion (Lacks c) (slice_split (λ b. eqb b c) text)
split_lacks c [] = (tt, tt)
split_lacks c (b ∷ text) = elim (cases_Bool (eqb b c)) [
  | inl is ↦ rw is (tt, split_lacks c text)
  | inr other ↦ rw other (onto_lacks c b (slice_split (λ d. eqb d c) text) (eqb-false b c other) (split_lacks c text))
]

-- there is a part
pub split_some : (c : ℕ) (text : List ℕ) → 0 < length (slice_split (λ b. eqb b c) text)
split_some c text = omega (arith, length-slice_split (λ b. eqb b c) text)
