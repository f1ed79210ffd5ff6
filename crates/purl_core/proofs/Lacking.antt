-- How joined parts are cut again, and that the version's '@' counts in a printed text.
use Rattle.std.proofs.Common.{◌≡◌, ◌≢◌, ◌++◌, ℕ, List, [], ◌∷◌, refl, sym, ap, ◌∙◌}
use Rattle.std.specs.List.{AllByRecursion, join_with_byte}
use Rattle.vx_text.proofs.Joins.{split_join}
use Rattle.vx_spec.specs.Marks.{Lacks}
use Rattle.purl_core.specs.Cuts.{last_of, NoneCounts}
use Rattle.vx_text.specs.Pieces.{kept_parts}
use Rattle.purl_core.specs.Spelling.{pieces}
use Rattle.purl_core.specs.Printed.{joined_parts}

-- ---- cutting undoes joining

pub kept_all : (xs : List (List ℕ)) → AllByRecursion (λ (t : List ℕ). t ≢ []) xs → kept_parts xs ≡ xs
kept_all [] all = refl
kept_all ([] ∷ xs) all = absurd (all.0 refl)
kept_all ((b ∷ x) ∷ xs) all = ap (λ (r : List (List ℕ)). (b ∷ x) ∷ r) (kept_all xs all.1)

pub pieces_joined : (c : ℕ) (xs : List (List ℕ)) → AllByRecursion (Lacks c) xs → AllByRecursion (λ (t : List ℕ). t ≢ []) xs → pieces c (joined_parts c xs) ≡ xs
pieces_joined c [] lack some = refl
pieces_joined c (x ∷ xs) lack some = ap kept_parts (split_join c x xs lack) ∙ kept_all (x ∷ xs) some

-- ---- the version

pub none_lacks : (before : ℕ) (text : List ℕ) → Lacks 64 text → NoneCounts before text
none_lacks before [] h = tt
none_lacks before (b ∷ text) h = ((λ e. absurd (h.0 e)), none_lacks b text h.1)

last_append : (before c : ℕ) (a t : List ℕ) → last_of before (a ++ c ∷ t) ≡ last_of c t
last_append before c [] t = refl
last_append before c (x ∷ a) t = last_append x c a t

last_lacks : (before : ℕ) (text : List ℕ) → text ≢ [] → Lacks 47 text → last_of before text ≢ 47
last_lacks before [] some h e = some refl
last_lacks before (b ∷ []) some h e = h.0 e
last_lacks before (b ∷ c ∷ text) some h e = last_lacks b (c ∷ text) (λ z. cc z) h.1 e

pub last_join : (before : ℕ) (xs : List (List ℕ)) (x : List ℕ) → x ≢ [] → Lacks 47 x → last_of before (join_with_byte 47 (xs ++ x ∷ [])) ≢ 47
last_join before [] x some h e = last_lacks before x some h e
last_join before (a ∷ []) x some h e = last_lacks 47 x some h (sym (last_append before 47 a x) ∙ e)
last_join before (a ∷ b ∷ bs) x some h e = last_join 47 (b ∷ bs) x some h (sym (last_append before 47 a (join_with_byte 47 (b ∷ (bs ++ x ∷ [])))) ∙ e)
