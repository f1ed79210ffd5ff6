-- What a text spells is a valid value.
use Rattle.std.proofs.Common.{◌≡◌, ◌≢◌, ◌<◌, ◌++◌, eqb, ℕ, Bool, true, false, not, List, [], ◌∷◌, length, map, filter, refl, sym, ap, subst, Option, Some, None, inl, inr, arith}
use Rattle.std.specs.List.{AllByRecursion, list_all, slice_split, onto_first}
use Rattle.std.specs.Char.{is_ascii_alphabetic, to_ascii_lowercase}
use Rattle.std.proofs.lemmas.Bool.{and_parts, and_from, cases_Bool}
use Rattle.std.proofs.lemmas.Bool.Decides.{nat_tests}
use Rattle.std.proofs.lemmas.List.Elements.{All-from_recursion, recursion_from_All}
use Rattle.std.proofs.lemmas.Str.Ascii.{lowercase-lowercase}
use Rattle.percent_encoding.specs.Percent.{percent_decode}
use Rattle.percent_encoding.proofs.PercentLemmas.{length-percent_decode, All-percent_decode}
use Rattle.vx_spec.specs.Marks.{marked}
use Rattle.vx_text.specs.Pieces.{kept_parts}
use Rattle.purl_core.specs.Grammar.{is_kind, is_kind_byte}
use Rattle.purl_core.specs.Value.{Package, IsValid, IsPart, IsPair, IsSegment, IsVersion, is_key, is_key_byte, is_dots}
use Rattle.vx_text.specs.Folding.{lowered}
use Rattle.purl_core.specs.Spelling.{IsDecodable, pieces, not_empty, listed_version, IsPiece, ArePieces, valued_pairs, Member, SpellsPurl}

abbrev Bytes : List ℕ → Type 0
Bytes text = AllByRecursion (λ b. b < 256) text

front_bytes : (a b : List ℕ) → Bytes (a ++ b) → Bytes a
front_bytes [] b all = tt
front_bytes (x ∷ a) b all = (all.0, front_bytes a b all.1)

back_bytes : (a b : List ℕ) → Bytes (a ++ b) → Bytes b
back_bytes [] b all = all
back_bytes (x ∷ a) b all = back_bytes a b all.1

onto_bytes : (b : ℕ) (ps : List (List ℕ)) → b < 256 → AllByRecursion Bytes ps → AllByRecursion Bytes (onto_first b ps)
onto_bytes b [] small all = ((small, tt), tt)
onto_bytes b (p ∷ ps) small all = ((small, all.0), all.1)

split_bytes : (c : ℕ) (text : List ℕ) → Bytes text → AllByRecursion Bytes (slice_split (λ b. eqb b c) text)
split_bytes c [] all = (tt, tt)
split_bytes c (b ∷ text) all = elim (cases_Bool (eqb b c)) [
  | inl is ↦ rw is (tt, split_bytes c text all.1)
  | inr other ↦ rw other (onto_bytes b (slice_split (λ d. eqb d c) text) all.0 (split_bytes c text all.1))
]

-- a part that is not empty, in bytes
abbrev Raw : List ℕ → Type 0
Raw text = (text ≢ []) × Bytes text

kept_raw : (xs : List (List ℕ)) → AllByRecursion Bytes xs → AllByRecursion Raw (kept_parts xs)
kept_raw [] all = tt
kept_raw ([] ∷ xs) all = kept_raw xs all.1
kept_raw ((b ∷ x) ∷ xs) all = (((λ e. cc e), all.0), kept_raw xs all.1)

pieces_raw : (mark : ℕ) (x : Option (List ℕ)) → ((t : List ℕ) → x ≡ Some t → Bytes t) → AllByRecursion Raw (pieces mark x)
pieces_raw mark None h = tt
pieces_raw mark (Some t) h = kept_raw (slice_split (λ b. eqb b mark) t) (split_bytes mark t (h t refl))

some_length : (text : List ℕ) → text ≢ [] → 0 < length text
some_length [] some = absurd (some refl)
some_length (b ∷ text) some = omega arith

part_of : (raw : List ℕ) → Raw raw → IsDecodable raw → IsPart (percent_decode raw)
part_of raw is good = record {
  some = (λ e.
      let size = (length-percent_decode raw).1 in
      let none : length (percent_decode raw) ≡ 0 = ap length e in
      absurd (omega (arith, size, none, some_length raw is.0)));
  utf8 = good.utf8;
  bytes = recursion_from_All (λ b. b < 256) (percent_decode raw) (All-percent_decode raw (All-from_recursion (λ b. b < 256) raw is.1));
}

parts_of : (raws : List (List ℕ)) → AllByRecursion Raw raws → AllByRecursion IsDecodable raws → AllByRecursion IsPart (map percent_decode raws)
parts_of [] all good = tt
parts_of (r ∷ rs) all good = (part_of r all.0 good.0, parts_of rs all.1 good.1)

-- ---- letters

kind_byte_low : (b : ℕ) → is_kind_byte b ≡ true → is_kind_byte (to_ascii_lowercase b) ≡ true
kind_byte_low b is = grind (arith, nat_tests)

key_byte_low : (b : ℕ) → is_key_byte b ≡ true → is_key_byte (to_ascii_lowercase b) ≡ true
key_byte_low b is = grind (arith, nat_tests)

letter_low : (b : ℕ) → is_ascii_alphabetic b ≡ true → is_ascii_alphabetic (to_ascii_lowercase b) ≡ true
letter_low b is = grind (arith, nat_tests)

all_low : (test : ℕ → Bool) → ((b : ℕ) → test b ≡ true → test (to_ascii_lowercase b) ≡ true) → (text : List ℕ) → list_all test text ≡ true → list_all test (lowered text) ≡ true
all_low test each [] all = refl
all_low test each (b ∷ text) all = let a = and_parts _ _ all in and_from _ _ (each b a.0) (all_low test each text a.1)

kind_low : (kind : List ℕ) → is_kind kind ≡ true → is_kind (lowered kind) ≡ true
kind_low [] is = is
kind_low (b ∷ kind) is = let a = and_parts _ _ is in and_from _ _ (letter_low b a.0) (all_low is_kind_byte kind_byte_low kind a.1)

key_low : (key : List ℕ) → is_key key ≡ true → is_key (lowered key) ≡ true
key_low [] is = is
key_low (b ∷ key) is = let a = and_parts _ _ is in and_from _ _ (letter_low b a.0) (all_low is_key_byte key_byte_low key a.1)

low_low : (text : List ℕ) → lowered (lowered text) ≡ lowered text
low_low [] = refl
low_low (b ∷ text) = cc (lowercase-lowercase b, low_low text)

-- ---- qualifiers

pair_of : (piece : List ℕ) (pair : List ℕ × List ℕ) → Bytes piece → IsPiece piece pair → IsDecodable pair.1 → pair.1 ≢ [] → IsPair (lowered pair.0, percent_decode pair.1)
pair_of piece pair bytes is good some = record {
  key = key_low pair.0 is.key;
  low = low_low pair.0;
  value = part_of pair.1 (some, (back_bytes pair.0 (61 ∷ pair.1) (subst Bytes is.joined bytes)).1) good;
}

each_pair_valid : (ps : List (List ℕ)) (pairs : List (List ℕ × List ℕ)) → AllByRecursion Raw ps → ArePieces ps pairs
    → AllByRecursion (λ (pair : List ℕ × List ℕ). IsDecodable pair.1) pairs → AllByRecursion IsPair (valued_pairs pairs)
each_pair_valid [] [] raw are good = tt
each_pair_valid [] (x ∷ xs) raw are good = absurd are
each_pair_valid (p ∷ ps) [] raw are good = absurd are
each_pair_valid (p ∷ ps) ((key, []) ∷ xs) raw are good = each_pair_valid ps xs raw.1 are.1 good.1
each_pair_valid (p ∷ ps) ((key, b ∷ value) ∷ xs) raw are good =
    (pair_of p (key, b ∷ value) raw.0.1 are.0 good.0 (λ e. cc e), each_pair_valid ps xs raw.1 are.1 good.1)

member_of : (P : List ℕ × List ℕ → Type 0) (ys : List (List ℕ × List ℕ)) (x : List ℕ × List ℕ) → AllByRecursion P ys → Member x ys → P x
member_of P [] x all m = absurd m
member_of P (y ∷ ys) x all (inl e) = subst P (sym e) all.0
member_of P (y ∷ ys) x all (inr m) = member_of P ys x all.1 m

all_members : (P : List ℕ × List ℕ → Type 0) (xs : List (List ℕ × List ℕ)) → ((x : List ℕ × List ℕ) → Member x xs → P x) → AllByRecursion P xs
all_members P [] h = tt
all_members P (x ∷ xs) h = (h x (inl refl), all_members P xs (λ z m. h z (inr m)))

-- ---- the other components

last_part : (xs : List (List ℕ)) (x : List ℕ) → AllByRecursion IsPart (xs ++ x ∷ []) → AllByRecursion IsPart xs × IsPart x
last_part [] x all = (tt, all.0)
last_part (a ∷ xs) x all = let r = last_part xs x all.1 in ((all.0, r.0), r.1)

version_of : (v : Option (List ℕ)) → AllByRecursion IsPart (listed_version v) → IsVersion v
version_of None all = tt
version_of (Some v) all = all.0

version_raw : (x : Option (List ℕ)) → ((t : List ℕ) → x ≡ Some t → Bytes t) → AllByRecursion Raw (not_empty x)
version_raw None h = tt
version_raw (Some t) h = kept_raw (t ∷ []) (h t refl, tt)

not_true : (x : Bool) → not x ≡ true → x ≡ false
not_true true e = sym e
not_true false e = refl

segments : (xs : List (List ℕ)) → AllByRecursion IsPart xs → AllByRecursion IsSegment (filter (λ segment. not (is_dots segment)) xs)
segments [] all = tt
segments (x ∷ xs) all = elim (cases_Bool (is_dots x)) [
  | inl dots ↦ rw dots (segments xs all.1)
  | inr none ↦ rw none (record { part = all.0; no_dots = none }, segments xs all.1)
]

-- ---- the bytes of the raw parts

marked_bytes : (front : List ℕ) (mark : ℕ) (x : Option (List ℕ)) → Bytes (front ++ marked mark x) → (t : List ℕ) → x ≡ Some t → Bytes t
marked_bytes front mark None all t e = cc e
marked_bytes front mark (Some s) all t e = let f : s ≡ t = cc e in subst Bytes f (back_bytes front (mark ∷ s) all).1

pub valid : (text : List ℕ) (p : Package) → Bytes text → SpellsPurl text p → IsValid p
valid text p bytes s =
    let r = s.parts in
    let w = s.written in
    let v = s.valued_as in
    let sub = subst Bytes w.ended.subpath_cut.joined bytes in
    let front = front_bytes w.ended.front (marked 35 r.subpath) sub in
    let query = subst Bytes w.ended.qualifiers_cut.joined front in
    let body = subst Bytes w.scheme_is.joined (front_bytes w.body (marked 63 r.qualifiers) query) in
    let rest = subst Bytes w.type_is.joined (back_bytes r.scheme (58 ∷ w.rest) body).1 in
    let behind = (back_bytes r.kind (47 ∷ w.behind) (back_bytes r.slashes (r.kind ++ 47 ∷ w.behind) rest)).1 in
    let version = subst Bytes w.version_cut.joined behind in
    let path = front_bytes r.path (marked 64 r.version) version in
    let path_raw = pieces_raw 47 (Some r.path) (λ t e. let f : r.path ≡ t = cc e in subst Bytes f path) in
    let parts = last_part p.namespace p.name (subst (AllByRecursion IsPart) (sym v.path) (parts_of (pieces 47 (Some r.path)) path_raw v.path_good)) in
    let pairs = each_pair_valid (pieces 38 r.qualifiers) v.pairs (pieces_raw 38 r.qualifiers (marked_bytes w.body 63 r.qualifiers query)) v.pairs_are v.values_good in
    record {
      kind = rw v.kind (kind_low r.kind w.type_is.form);
      kind_low = rw v.kind (low_low r.kind);
      namespace = parts.0;
      name = parts.1;
      version = version_of p.version (subst (AllByRecursion IsPart) (sym v.version) (parts_of (not_empty r.version) (version_raw r.version (marked_bytes r.path 64 r.version version)) v.version_good));
      pairs = all_members IsPair p.qualifiers (λ x m. member_of IsPair (valued_pairs v.pairs) x pairs ((v.qualifiers x).0 m));
      ascending = v.ascending;
      subpath = subst (AllByRecursion IsSegment) (sym v.subpath)
          (segments (map percent_decode (pieces 47 r.subpath)) (parts_of (pieces 47 r.subpath) (pieces_raw 47 r.subpath (marked_bytes w.ended.front 35 r.subpath sub)) v.subpath_good));
    }
