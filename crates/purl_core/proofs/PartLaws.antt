-- A text is written of one list of raw parts.
use Rattle.std.proofs.Common.{◌≡◌, ◌≢◌, ◌≤◌, ◌+◌, eqb, ℕ, suc, true, not, List, [], ◌∷◌, ◌++◌, length, map, take, drop, refl, sym, ap, ◌∙◌, subst, Option, Some, arith, inl, inr}
use Rattle.std.specs.List.{AllByRecursion, list_any, prefix_len, onto_first}
use Rattle.std.specs.Char.{is_ascii_alphabetic, to_ascii_lowercase}
use Rattle.std.proofs.lemmas.Bool.{and_parts, false≢true, cases_Bool, eqb-true, ne_eqb, eq-eqb}
use Rattle.vx_spec.proofs.MarkLaws.{one_cut}
use Rattle.vx_spec.specs.Marks.{Lacks, marked, IsCut}
use Rattle.vx_text.specs.Pieces.{kept_parts}
use Rattle.purl_core.specs.Grammar.{is_kind, is_kind_byte, IsEnded, HasScheme, HasType, HasSegment, between, Parts, IsPurlWritten}
use Rattle.vx_spec.proofs.EndLaws.{lacks_by, one_last_cut}
use Rattle.purl_core.proofs.Cuts.{one_version_cut}

pub one_ended : {text b b' : List ℕ} {q q' s s' : Option (List ℕ)} → IsEnded text b q s → IsEnded text b' q' s' → (b ≡ b') × (q ≡ q') × (s ≡ s')
one_ended {text} {b} {b'} {q} {q'} {s} {s'} x y =
    let first = one_last_cut 35 x.front y.front s s' x.subpath_cut.last y.subpath_cut.last (sym x.subpath_cut.joined ∙ y.subpath_cut.joined) in
    let second = one_last_cut 63 b b' q q' x.qualifiers_cut.last y.qualifiers_cut.last (sym x.qualifiers_cut.joined ∙ first.0 ∙ y.qualifiers_cut.joined) in
    (second.0, second.1, first.1)

abbrev pkg : List ℕ
pkg = map to_ascii_lowercase (112 ∷ 107 ∷ 103 ∷ [])

lacks_map : (f : ℕ → ℕ) (c : ℕ) (text : List ℕ) → Lacks (f c) (map f text) → Lacks c text
lacks_map f c [] p = tt
lacks_map f c (b ∷ text) p = ((λ e. p.0 (ap f e)), lacks_map f c text p.1)

pkg_lacks : Lacks (to_ascii_lowercase 58) pkg
pkg_lacks = ((λ z. cc z), ((λ z. cc z), ((λ z. cc z), tt)))

scheme_lacks : (s : List ℕ) → map to_ascii_lowercase s ≡ pkg → Lacks 58 s
scheme_lacks s e = lacks_map to_ascii_lowercase 58 s (subst (Lacks (to_ascii_lowercase 58)) (sym e) pkg_lacks)

pub scheme_cut : {body s r front : List ℕ} {behind : Option (List ℕ)} → HasScheme body s r → IsCut 58 body front behind → (s ≡ front) × (Some r ≡ behind)
scheme_cut {body} {s} {r} {front} {behind} h c = one_cut 58 s front (Some r) behind (scheme_lacks s h.form) c.first (sym h.joined ∙ c.joined)

pub one_scheme : {body s r s' r' : List ℕ} → HasScheme body s r → HasScheme body s' r' → (s ≡ s') × (r ≡ r')
one_scheme {body} {s} {r} {s'} {r'} x y =
    let e = one_cut 58 s s' (Some r) (Some r') (scheme_lacks s x.form) (scheme_lacks s' y.form) (sym x.joined ∙ y.joined) in
    (e.0, cc (e.1))

-- ---- the type

letter_other : (b : ℕ) → is_ascii_alphabetic b ≡ true → b ≢ 47
letter_other b is e = false≢true (sym (ap is_ascii_alphabetic e) ∙ is)

pub kind_lacks : (kind : List ℕ) → is_kind kind ≡ true → Lacks 47 kind
kind_lacks [] e = tt
kind_lacks (b ∷ kind) e = let a = and_parts _ _ e in (letter_other b a.0, lacks_by is_kind_byte 47 refl kind a.1)

-- how many slashes stand first
slashes_len : (sl kind rest : List ℕ) → AllByRecursion (λ b. b ≡ 47) sl → is_kind kind ≡ true → prefix_len (λ b. eqb b 47) (sl ++ (kind ++ rest)) ≡ length sl
slashes_len [] [] rest all is = absurd (false≢true is)
slashes_len [] (k ∷ kind) rest all is = rw (ne_eqb k 47 (letter_other k (and_parts _ _ is).0)) refl
slashes_len (b ∷ sl) kind rest all is = rw (eq-eqb b 47 all.0, slashes_len sl kind rest all.1 is) (omega arith)

drop_front : (xs ys : List ℕ) → drop (length xs) (xs ++ ys) ≡ ys
drop_front [] ys = refl
drop_front (x ∷ xs) ys = drop_front xs ys

take_front : (xs ys : List ℕ) → take (length xs) (xs ++ ys) ≡ xs
take_front [] ys = refl
take_front (x ∷ xs) ys = ap (λ (t : List ℕ). x ∷ t) (take_front xs ys)

pub prefix_slashes : (text : List ℕ) → AllByRecursion (λ b. b ≡ 47) (take (prefix_len (λ b. eqb b 47) text) text)
prefix_slashes [] = tt
prefix_slashes (b ∷ text) = elim (cases_Bool (eqb b 47)) [
  | inl is ↦ rw (is, add_one (prefix_len (λ b. eqb b 47) text)) (eqb-true b 47 is, prefix_slashes text)
  | inr other ↦ rw other tt
] where
  add_one : (n : ℕ) → 1 + n ≡ suc n
  add_one n = omega arith

pub prefix_within : (text : List ℕ) → prefix_len (λ b. eqb b 47) text ≤ length text
prefix_within [] = omega arith
prefix_within (b ∷ text) = elim (cases_Bool (eqb b 47)) [
  | inl is ↦ rw is (omega (arith, prefix_within text))
  | inr other ↦ rw other (omega arith)
]

-- where a rest with a type is cut
pub type_cut : {rest sl kind front : List ℕ} {behind behind' : Option (List ℕ)} → HasType rest sl kind behind
    → IsCut 47 (drop (prefix_len (λ b. eqb b 47) rest) rest) front behind' → (kind ≡ front) × (behind ≡ behind')
type_cut {rest} {sl} {kind} {front} {behind} {behind'} h c =
    let n : prefix_len (λ b. eqb b 47) rest ≡ length sl = rw h.joined (slashes_len sl kind (marked 47 behind) h.slashes_are h.form) in
    let e : drop (prefix_len (λ b. eqb b 47) rest) rest ≡ kind ++ marked 47 behind = rw (n, h.joined) (drop_front sl (kind ++ marked 47 behind)) in
    one_cut 47 kind front behind behind' (kind_lacks kind h.form) c.first (sym e ∙ c.joined)

pub one_type : {rest sl kind sl' kind' : List ℕ} {behind behind' : Option (List ℕ)} → HasType rest sl kind behind → HasType rest sl' kind' behind'
    → (sl ≡ sl') × (kind ≡ kind') × (behind ≡ behind')
one_type {rest} {sl} {kind} {sl'} {kind'} {behind} {behind'} x y =
    let n : prefix_len (λ b. eqb b 47) rest ≡ length sl = rw x.joined (slashes_len sl kind (marked 47 behind) x.slashes_are x.form) in
    let m : prefix_len (λ b. eqb b 47) rest ≡ length sl' = rw y.joined (slashes_len sl' kind' (marked 47 behind') y.slashes_are y.form) in
    let front : take (length sl) rest ≡ sl = rw x.joined (take_front sl (kind ++ marked 47 behind)) in
    let front' : take (length sl') rest ≡ sl' = rw y.joined (take_front sl' (kind' ++ marked 47 behind')) in
    let back : drop (length sl) rest ≡ kind ++ marked 47 behind = rw x.joined (drop_front sl (kind ++ marked 47 behind)) in
    let back' : drop (length sl') rest ≡ kind' ++ marked 47 behind' = rw y.joined (drop_front sl' (kind' ++ marked 47 behind')) in
    let same : length sl ≡ length sl' = sym n ∙ m in
    let e = one_cut 47 kind kind' behind behind' (kind_lacks kind x.form) (kind_lacks kind' y.form) (sym back ∙ ap (λ k. drop k rest) same ∙ back') in
    (sym front ∙ ap (λ k. take k rest) same ∙ front', e.0, e.1)

-- ---- whole texts

same : {s s' l l' k k' p p' : List ℕ} {v v' q q' u u' : Option (List ℕ)} → s ≡ s' → l ≡ l' → k ≡ k' → p ≡ p' → v ≡ v' → q ≡ q' → u ≡ u'
    → ◌≡◌ {A = Parts} (record { scheme = s; slashes = l; kind = k; path = p; version = v; qualifiers = q; subpath = u })
    (record { scheme = s'; slashes = l'; kind = k'; path = p'; version = v'; qualifiers = q'; subpath = u' })
same a b c d e f g = cc (a, b, c, d, e, f, g)

pub one_written : (text : List ℕ) (p q : Parts) → IsPurlWritten text p → IsPurlWritten text q → p ≡ q
one_written text p q x y =
    let ends = one_ended x.ended y.ended in
    let scheme = one_scheme x.scheme_is (rw (← ends.0) at y.scheme_is) in
    let type = one_type x.type_is (rw (← scheme.1) at y.type_is) in
    let behind : x.behind ≡ y.behind = cc (type.2) in
    let version = one_version_cut 47 p.path q.path p.version q.version x.version_cut.counts y.version_cut.counts (sym x.version_cut.joined ∙ behind ∙ y.version_cut.joined) in
    same scheme.0 type.0 type.1 version.0 version.1 ends.1 ends.2

-- ---- segments

onto_kept : (b : ℕ) (parts : List (List ℕ)) → kept_parts (onto_first b parts) ≢ []
onto_kept b [] e = cc e
onto_kept b (p ∷ ps) e = cc e

pub segment_if : (path : List ℕ) → list_any (λ b. not (eqb b 47)) path ≡ true → HasSegment path
segment_if [] e = absurd (false≢true e)
segment_if (b ∷ path) e = elim (cases_Bool (eqb b 47)) [
  | inl is ↦ rw is (segment_if path (rw is at e))
  | inr other ↦ rw other (onto_kept b (between path))
]

pub segment_only : (path : List ℕ) → HasSegment path → list_any (λ b. not (eqb b 47)) path ≡ true
segment_only [] h = absurd (h refl)
segment_only (b ∷ path) h = elim (cases_Bool (eqb b 47)) [
  | inl is ↦ rw is (segment_only path (rw is at h))
  | inr other ↦ rw other refl
]
