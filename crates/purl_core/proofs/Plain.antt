-- A text without '%' stands for itself, and so does each part of it.
use Rattle.std.proofs.Common.{◌≡◌, ◌≢◌, ◌<◌, ◌+◌, ◌++◌, eqb, ℕ, zero, suc, false, List, [], ◌∷◌, length, get_or, ap, subst, ◌∙◌, Option, Some, None, arith, inl, inr}
use Rattle.std.specs.List.{AllByRecursion, list_any, onto_first, slice_split}
use Rattle.std.proofs.lemmas.Bool.{cases_Bool, eqb-false}
use Rattle.percent_encoding.proofs.PercentLemmas.{percent_decode-nil, percent_decode_not_percent}
use Rattle.vx_spec.specs.Marks.{Lacks, marked}
use Rattle.vx_spec.proofs.EachLaws.{each_append, each_behind}
use Rattle.vx_text.specs.Escapes.{IsWhole, unescaped}
use Rattle.purl_core.specs.Grammar.{Parts, IsPurlWritten}
use Rattle.purl_core.specs.Places.{AllPass, AllWhole, components, path_at, pieces_of, placed_parts, placed_whole, places, value_in, values, version_at}

pub lacks_if : (c : ℕ) (text : List ℕ) → list_any (λ b. eqb b c) text ≡ false → Lacks c text
lacks_if c [] none = tt
lacks_if c (b ∷ text) none = elim (cases_Bool (eqb b c)) [
  | inl is ↦ let e = rw is at none in cc (e)
  | inr other ↦ let e = rw other at none in (eqb-false b c other, lacks_if c text e)
]

pub unescaped_plain : (text : List ℕ) → Lacks 37 text → unescaped text ≡ text
unescaped_plain [] plain = percent_decode-nil
unescaped_plain (b ∷ text) plain = percent_decode_not_percent b text plain.0 ∙ ap (λ (t : List ℕ). b ∷ t) (unescaped_plain text plain.1)

lacks_at : (c : ℕ) (text : List ℕ) → Lacks c text → (i : ℕ) → i < length text → get_or text i 0 ≢ c
lacks_at c [] lacks i within = absurd (omega (arith, within))
lacks_at c (b ∷ text) lacks zero within = lacks.0
lacks_at c (b ∷ text) lacks (suc i) within = lacks_at c text lacks.1 i (omega (arith, within))

whole_plain : (text : List ℕ) → Lacks 37 text → IsWhole text
whole_plain text plain i within broken = lacks_at 37 text plain i within broken.1

-- ---- the parts of a text lack what it lacks

lacks_front : (c : ℕ) (xs ys : List ℕ) → Lacks c (xs ++ ys) → Lacks c xs
lacks_front c [] ys lacks = tt
lacks_front c (x ∷ xs) ys lacks = (lacks.0, lacks_front c xs ys lacks.1)

lacks_back : (c : ℕ) (xs ys : List ℕ) → Lacks c (xs ++ ys) → Lacks c ys
lacks_back c xs ys lacks = each_behind (λ b. b ≢ c) xs ys lacks

abbrev MayLack : ℕ → Option (List ℕ) → Type 0
MayLack c None = Unit {0}
MayLack c (Some text) = Lacks c text

lacks_behind : (c mark : ℕ) (xs : List ℕ) (x : Option (List ℕ)) → Lacks c (xs ++ marked mark x) → MayLack c x
lacks_behind c mark xs None lacks = tt
lacks_behind c mark xs (Some text) lacks = (lacks_back c xs (mark ∷ text) lacks).1

onto_lacks : (c b : ℕ) (parts : List (List ℕ)) → b ≢ c → AllByRecursion (Lacks c) parts → AllByRecursion (Lacks c) (onto_first b parts)
onto_lacks c b [] other all = ((other, tt), tt)
onto_lacks c b (part ∷ parts) other all = ((other, all.0), all.1)

split_lack : (c mark : ℕ) (text : List ℕ) → Lacks c text → AllByRecursion (Lacks c) (slice_split (λ b. eqb b mark) text)
split_lack c mark [] lacks = (tt, tt)
split_lack c mark (b ∷ text) lacks = elim (cases_Bool (eqb b mark)) [
  | inl is ↦ rw is (tt, split_lack c mark text lacks.1)
  | inr other ↦ rw other (onto_lacks c b (slice_split (λ d. eqb d mark) text) lacks.0 (split_lack c mark text lacks.1))
]

places_lack : (c at : ℕ) (parts : List (List ℕ)) → AllByRecursion (Lacks c) parts → AllPass (Lacks c) (places at parts)
places_lack c at [] all = tt
places_lack c at ([] ∷ parts) all = places_lack c (at + 1) parts all.1
places_lack c at ((b ∷ part) ∷ parts) all = (all.0, places_lack c (at + length (b ∷ part) + 1) parts all.1)

parts_lack : (c at mark : ℕ) (x : Option (List ℕ)) → MayLack c x → AllPass (Lacks c) (placed_parts at mark x)
parts_lack c at mark None lacks = tt
parts_lack c at mark (Some text) lacks = places_lack c at (slice_split (λ b. eqb b mark) text) (split_lack c mark text lacks)

whole_lacks : (c at : ℕ) (x : Option (List ℕ)) → MayLack c x → AllPass (Lacks c) (placed_whole at x)
whole_lacks c at None lacks = tt
whole_lacks c at (Some text) lacks = places_lack c at (text ∷ []) (lacks, tt)

value_lacks : (c at : ℕ) (piece : List ℕ) → Lacks c piece → AllPass (Lacks c) (value_in at piece)
value_lacks c at [] lacks = tt
value_lacks c at (b ∷ piece) lacks = elim (cases_Bool (eqb b 61)) [
  | inl is ↦ rw is (lacks.1, tt)
  | inr other ↦ rw other (value_lacks c (at + 1) piece lacks.1)
]

all_append : (P : List ℕ → Type 0) (xs ys : List (ℕ × List ℕ)) → AllPass P xs → AllPass P ys → AllPass P (xs ++ ys)
all_append P xs ys p q = each_append (λ (part : ℕ × List ℕ). P part.1) xs ys p q

values_lack : (c : ℕ) (pieces : List (ℕ × List ℕ)) → AllPass (Lacks c) pieces → AllPass (Lacks c) (values pieces)
values_lack c [] all = tt
values_lack c (piece ∷ pieces) all = all_append (Lacks c) (value_in piece.0 piece.1) (values pieces) (value_lacks c piece.0 piece.1 all.0) (values_lack c pieces all.1)

components_lack : (c : ℕ) (text : List ℕ) (p : Parts) → IsPurlWritten text p → Lacks c text → AllPass (Lacks c) (components p)
components_lack c text p w lacks =
    let all = subst (Lacks c) w.ended.subpath_cut.joined lacks in
    let front = subst (Lacks c) w.ended.qualifiers_cut.joined (lacks_front c w.ended.front (marked 35 p.subpath) all) in
    let body = subst (Lacks c) w.scheme_is.joined (lacks_front c w.body (marked 63 p.qualifiers) front) in
    let rest = subst (Lacks c) w.type_is.joined (lacks_back c p.scheme (58 ∷ w.rest) body).1 in
    let behind = subst (Lacks c) w.version_cut.joined (lacks_back c p.kind (47 ∷ w.behind) (lacks_back c p.slashes (p.kind ++ 47 ∷ w.behind) rest)).1 in
    let pieces = parts_lack c _ 38 p.qualifiers (lacks_behind c 63 w.body p.qualifiers front) in
    all_append (Lacks c) (placed_parts (path_at p) 47 (Some p.path)) _ (parts_lack c _ 47 (Some p.path) (lacks_front c p.path (marked 64 p.version) behind))
    (all_append (Lacks c) (placed_whole (version_at p) p.version) _ (whole_lacks c _ p.version (lacks_behind c 64 p.path p.version behind))
    (all_append (Lacks c) (values (pieces_of p)) _ (values_lack c (pieces_of p) pieces)
    (parts_lack c _ 47 p.subpath (lacks_behind c 35 w.ended.front p.subpath all))))

all_whole : (parts : List (ℕ × List ℕ)) → AllPass (Lacks 37) parts → AllWhole parts
all_whole [] all = tt
all_whole (part ∷ parts) all = (whole_plain part.1 all.0, all_whole parts all.1)

-- no '%' of a text without any is broken
pub plain_whole : (text : List ℕ) (p : Parts) → IsPurlWritten text p → Lacks 37 text → AllWhole (components p)
plain_whole text p w plain = all_whole (components p) (components_lack 37 text p w plain)
