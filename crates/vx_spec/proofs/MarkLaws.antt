-- Cuts at a byte: where they are, and that there is one.
use Rattle.std.proofs.Common.{◌≡◌, ◌≢◌, ◌<◌, eqb, ℕ, true, List, [], ◌∷◌, ◌++◌, length, get_or, refl, sym, ap, ◌∙◌, Option, Some, None, arith, append-nil}
use Rattle.std.specs.List.{AllByRecursion, join_with_byte}
use Rattle.std.proofs.lemmas.Bool.{ne_eqb}
use Rattle.std.proofs.lemmas.Bool.Decides.{nat_tests}
use Rattle.std.proofs.lemmas.List.Elements.{recursion_from_All, All-from_get_or}
use Rattle.vx_spec.specs.Marks.{IsCut, Lacks, before_mark, behind_mark, marked}

pub lacks : (c : ℕ) (text : List ℕ) → ((i : ℕ) → i < length text → get_or text i 0 ≢ c) → Lacks c text
lacks c text h = recursion_from_All (λ b. b ≢ c) text (All-from_get_or (λ b. b ≢ c) text 0 h)

-- A text is cut at its first mark in one way.
pub one_cut : (c : ℕ) (a b : List ℕ) (x y : Option (List ℕ)) → Lacks c a → Lacks c b → a ++ marked c x ≡ b ++ marked c y → (a ≡ b) × (x ≡ y)
one_cut c [] [] None None p q e = (refl, refl)
one_cut c [] [] None (Some t) p q e = cc e
one_cut c [] [] (Some s) None p q e = cc e
one_cut c [] [] (Some s) (Some t) p q e = (refl, cc e)
one_cut c [] (y ∷ ys) None t p q e = cc e
one_cut c [] (y ∷ ys) (Some s) t p q e = absurd (q.0 (cc e))
one_cut c (x ∷ xs) [] s None p q e = cc e
one_cut c (x ∷ xs) [] s (Some t) p q e = absurd (p.0 (cc e))
one_cut c (x ∷ xs) (y ∷ ys) s t p q e = let r = one_cut c xs ys s t p.1 q.1 (cc e) in (cc (e, r.0), r.1)

same_byte : (c : ℕ) → eqb c c ≡ true
same_byte c = grind (arith, nat_tests)

-- what is joined at a mark is what stands before the first and behind it
pub apart : (c : ℕ) (front : List ℕ) (rest : Option (List ℕ)) → Lacks c front → (before_mark c (front ++ marked c rest) ≡ front) × (behind_mark c (front ++ marked c rest) ≡ rest)
apart c [] None lacks = (refl, refl)
apart c [] (Some t) lacks = rw (same_byte c) (refl, refl)
apart c (b ∷ front) rest lacks =
    let more = apart c front rest lacks.1 in
    rw (ne_eqb b c lacks.0) (ap (λ (t : List ℕ). b ∷ t) more.0, more.1)

-- and so are the parts of a cut text
pub cut_apart : (c : ℕ) (text front : List ℕ) (rest : Option (List ℕ)) → IsCut c text front rest → (before_mark c text ≡ front) × (behind_mark c text ≡ rest)
cut_apart c text front rest cut = rw cut.joined (apart c front rest cut.first)

-- what stands behind the first part
abbrev behind : ℕ → List (List ℕ) → Option (List ℕ)
behind c [] = None
behind c (x ∷ xs) = Some (join_with_byte c (x ∷ xs))

joined : (c : ℕ) (x : List ℕ) (xs : List (List ℕ)) → join_with_byte c (x ∷ xs) ≡ x ++ marked c (behind c xs)
joined c x [] = sym (append-nil x)
joined c x (y ∷ ys) = refl

-- A text is joined of parts that lack the separator in one way.
pub one_join : (c : ℕ) (xs ys : List (List ℕ)) → AllByRecursion (Lacks c) xs → AllByRecursion (Lacks c) ys → 0 < length xs → 0 < length ys
    → join_with_byte c xs ≡ join_with_byte c ys → xs ≡ ys
one_join c [] ys p q l m e = absurd (omega arith)
one_join c (x ∷ xs) [] p q l m e = absurd (omega arith)
one_join c (x ∷ []) (y ∷ []) p q l m e = cc e
one_join c (x ∷ []) (y ∷ z ∷ zs) p q l m e = let r = one_cut c x y None (Some (join_with_byte c (z ∷ zs))) p.0 q.0 (append-nil x ∙ e) in cc r.1
one_join c (x ∷ w ∷ ws) (y ∷ []) p q l m e = let r = one_cut c x y (Some (join_with_byte c (w ∷ ws))) None p.0 q.0 (e ∙ sym (append-nil y)) in cc r.1
one_join c (x ∷ w ∷ ws) (y ∷ z ∷ zs) p q l m e =
    let r = one_cut c x y (Some (join_with_byte c (w ∷ ws))) (Some (join_with_byte c (z ∷ zs))) p.0 q.0 e in
    let s = one_join c (w ∷ ws) (z ∷ zs) p.1 q.1 (omega arith) (omega arith) (cc (r.1)) in
    cc (r.0, s)
