-- The printed text of a value spells the value.
use Rattle.std.proofs.Common.{◌≡◌, ◌≢◌, ◌<◌, ◌++◌, ℕ, true, false, not, List, [], ◌∷◌, map, refl, sym, ap, ◌∙◌, subst, Option, Some, None, filter}
use Rattle.std.specs.Prelude.{option_map}
use Rattle.std.specs.List.{AllByRecursion, join_with_byte}
use Rattle.std.specs.Ordering.{nat_cmp}
use Rattle.std.proofs.Common.{Less}
use Rattle.std.specs.Cmp.Lexicographic.{slice_cmp}
use Rattle.std.specs.Char.{is_ascii_alphabetic}
use Rattle.std.proofs.lemmas.Bool.{and_parts, false≢true, eqb-false}
use Rattle.std.proofs.lemmas.List.Elements.{All-from_recursion}
use Rattle.percent_encoding.specs.Percent.{percent_decode}
use Rattle.vx_text.specs.Escapes.{escaped, is_left}
use Rattle.vx_text.proofs.EscapeLaws.{escaped-whole, unescaped-escaped}
use Rattle.vx_spec.specs.Marks.{IsLastCut, Lacks, marked}
use Rattle.purl_core.specs.Cuts.{IsVersionCut}
use Rattle.purl_core.specs.Grammar.{Parts, IsPurlWritten, IsEnded, is_kind, is_kind_byte}
use Rattle.purl_core.specs.Value.{Package, IsValid, IsPart, IsPair, IsSegment, IsVersion, Ascending, is_key_byte, is_dots}
use Rattle.vx_text.specs.Folding.{lowered}
use Rattle.purl_core.specs.Spelling.{IsDecodable, pieces, not_empty, listed_version, ArePieces, valued_pairs, Member, Distinct, SameMap, IsValued, SpellsPurl}
use Rattle.purl_core.specs.Printed.{joined_parts, pair_text, path_text, body_text, purl_text}
use Rattle.purl_core.proofs.OneValue.{key_lacks, one_value, irreflexive}
use Rattle.vx_text.proofs.EscapeLaws.{escaped_lacks, escaped_some}
use Rattle.vx_spec.proofs.EndLaws.{lacks_by, lacks_append}
use Rattle.vx_text.proofs.Joins.{join_lacks, marked_lacks}
use Rattle.purl_core.proofs.Lacking.{kept_all, pieces_joined, none_lacks, last_join}

-- a byte that stands only as a sign before the qualifiers or the subpath
record IsSign (c : ℕ) : Type 0 where
  left : is_left c ≡ false
  kind_byte : is_kind_byte c ≡ false
  key_byte : is_key_byte c ≡ false
  letter : is_ascii_alphabetic c ≡ false
  p : 112 ≢ c
  k : 107 ≢ c
  g : 103 ≢ c
  percent : 37 ≢ c
  colon : 58 ≢ c
  slash : 47 ≢ c
  at : 64 ≢ c
  equals : 61 ≢ c
  and : 38 ≢ c

hash : IsSign 35
hash = record { left = refl; kind_byte = refl; key_byte = refl; letter = refl; p = (eqb-false _ _ refl); k = (eqb-false _ _ refl); g = (eqb-false _ _ refl); percent = (eqb-false _ _ refl); colon = (eqb-false _ _ refl); slash = (eqb-false _ _ refl); at = (eqb-false _ _ refl); equals = (eqb-false _ _ refl); and = (eqb-false _ _ refl) }

question : IsSign 63
question = record { left = refl; kind_byte = refl; key_byte = refl; letter = refl; p = (eqb-false _ _ refl); k = (eqb-false _ _ refl); g = (eqb-false _ _ refl); percent = (eqb-false _ _ refl); colon = (eqb-false _ _ refl); slash = (eqb-false _ _ refl); at = (eqb-false _ _ refl); equals = (eqb-false _ _ refl); and = (eqb-false _ _ refl) }

kind_lacks : (c : ℕ) (kind : List ℕ) → IsSign c → is_kind kind ≡ true → Lacks c kind
kind_lacks c [] sign is = tt
kind_lacks c (b ∷ kind) sign is =
    let a = and_parts _ _ is in
    ((λ e. false≢true (sym sign.letter ∙ sym (ap is_ascii_alphabetic e) ∙ a.0)), lacks_by is_kind_byte c sign.kind_byte kind a.1)

all_escaped_lack : (c : ℕ) (xs : List (List ℕ)) → is_left c ≡ false → 37 ≢ c → AllByRecursion (Lacks c) (map escaped xs)
all_escaped_lack c [] out other = tt
all_escaped_lack c (x ∷ xs) out other = (escaped_lacks c x out other, all_escaped_lack c xs out other)

all_escaped_some : (xs : List (List ℕ)) → AllByRecursion IsPart xs → AllByRecursion (λ (t : List ℕ). t ≢ []) (map escaped xs)
all_escaped_some [] all = tt
all_escaped_some (x ∷ xs) all = (escaped_some x all.0.some, all_escaped_some xs all.1)

decodes : (x : List ℕ) → IsPart x → percent_decode (escaped x) ≡ x
decodes x part = unescaped-escaped x (All-from_recursion (λ b. b < 256) x part.bytes)

decodable : (x : List ℕ) → IsPart x → IsDecodable (escaped x)
decodable x part = record { whole = escaped-whole x; utf8 = rw (decodes x part) part.utf8 }

all_decode : (xs : List (List ℕ)) → AllByRecursion IsPart xs → map percent_decode (map escaped xs) ≡ xs
all_decode [] all = refl
all_decode (x ∷ xs) all = cc (decodes x all.0, all_decode xs all.1)

all_decodable : (xs : List (List ℕ)) → AllByRecursion IsPart xs → AllByRecursion IsDecodable (map escaped xs)
all_decodable [] all = tt
all_decodable (x ∷ xs) all = (decodable x all.0, all_decodable xs all.1)

-- ---- the path

abbrev path_list : Package → List (List ℕ)
path_list p = p.namespace ++ p.name ∷ []

parts_append : (xs : List (List ℕ)) (x : List ℕ) → AllByRecursion IsPart xs → IsPart x → AllByRecursion IsPart (xs ++ x ∷ [])
parts_append [] x all part = (part, tt)
parts_append (a ∷ xs) x all part = (all.0, parts_append xs x all.1 part)

some_pieces : (xs : List (List ℕ)) (x : List ℕ) → AllByRecursion (Lacks 47) (map escaped (xs ++ x ∷ [])) → AllByRecursion (λ (t : List ℕ). t ≢ []) (map escaped (xs ++ x ∷ []))
    → pieces 47 (Some (join_with_byte 47 (map escaped (xs ++ x ∷ [])))) ≡ map escaped (xs ++ x ∷ [])
some_pieces [] x lack some = pieces_joined 47 (map escaped (x ∷ [])) lack some
some_pieces (a ∷ xs) x lack some = pieces_joined 47 (map escaped (a ∷ (xs ++ x ∷ []))) lack some

path_pieces : (p : Package) → IsValid p → pieces 47 (Some (path_text p)) ≡ map escaped (path_list p)
path_pieces p valid =
    some_pieces p.namespace p.name (all_escaped_lack 47 (path_list p) refl (eqb-false _ _ refl)) (all_escaped_some (path_list p) (parts_append p.namespace p.name valid.namespace valid.name))

path_lacks : (c : ℕ) (p : Package) → is_left c ≡ false → 37 ≢ c → 47 ≢ c → Lacks c (path_text p)
path_lacks c p out percent slash = join_lacks 47 c (map escaped (path_list p)) slash (all_escaped_lack c (path_list p) out percent)

map_last : (xs : List (List ℕ)) (x : List ℕ) → map escaped (xs ++ x ∷ []) ≡ map escaped xs ++ escaped x ∷ []
map_last [] x = refl
map_last (a ∷ xs) x = ap (λ (r : List (List ℕ)). escaped a ∷ r) (map_last xs x)

not_nil : (xs : List (List ℕ)) (x : List ℕ) → map escaped (xs ++ x ∷ []) ≢ []
not_nil [] x e = cc e
not_nil (a ∷ xs) x e = cc e

version_cut : (p : Package) → IsValid p → IsVersionCut (path_text p ++ marked 64 (option_map escaped p.version)) (path_text p) (option_map escaped p.version)
version_cut p valid = record { joined = refl; counts = counts p.version } where
  counts : (v : Option (List ℕ)) → Rattle.purl_core.specs.Cuts.CountsLast 47 (path_text p) (option_map escaped v)
  counts None = none_lacks 47 (path_text p) (path_lacks 64 p refl (eqb-false _ _ refl) (eqb-false _ _ refl))
  counts (Some v) = (
    rw (map_last p.namespace p.name) (last_join 47 (map escaped p.namespace) (escaped p.name) (escaped_some p.name valid.name.some) (escaped_lacks 47 p.name refl (eqb-false _ _ refl))),
    none_lacks 64 (escaped v) (escaped_lacks 64 v refl (eqb-false _ _ refl)),
  )

-- ---- qualifiers

pair_lacks : (c : ℕ) → IsSign c → (pair : List ℕ × List ℕ) → IsPair pair → Lacks c (pair_text pair)
pair_lacks c sign pair is = lacks_append c pair.0 _ (key_lacks c pair.0 sign.letter sign.key_byte is.key) (sign.equals, escaped_lacks c pair.1 sign.left sign.percent)

pair_and : (pair : List ℕ × List ℕ) → IsPair pair → Lacks 38 (pair_text pair)
pair_and pair is = lacks_append 38 pair.0 _ (key_lacks 38 pair.0 refl refl is.key) ((eqb-false _ _ refl), escaped_lacks 38 pair.1 refl (eqb-false _ _ refl))

all_pairs : (P : List ℕ → Type 0) → ((pair : List ℕ × List ℕ) → IsPair pair → P (pair_text pair)) → (xs : List (List ℕ × List ℕ)) → AllByRecursion IsPair xs
    → AllByRecursion P (map pair_text xs)
all_pairs P each [] all = tt
all_pairs P each (x ∷ xs) all = (each x all.0, all_pairs P each xs all.1)

pair_some : (pair : List ℕ × List ℕ) → IsPair pair → pair_text pair ≢ []
pair_some pair is = go pair.0 (escaped pair.1) where
  go : (key value : List ℕ) → key ++ 61 ∷ value ≢ []
  go [] value e = cc e
  go (b ∷ key) value e = cc e

joined_lacks : (mark c : ℕ) (xs : List (List ℕ)) → mark ≢ c → AllByRecursion (Lacks c) xs → (t : List ℕ) → joined_parts mark xs ≡ Some t → Lacks c t
joined_lacks mark c [] other all t e = cc e
joined_lacks mark c (x ∷ xs) other all t e = let f : join_with_byte mark (x ∷ xs) ≡ t = cc e in subst (Lacks c) f (join_lacks mark c (x ∷ xs) other all)

abbrev raw_pairs : List (List ℕ × List ℕ) → List (List ℕ × List ℕ)
raw_pairs xs = map (λ (pair : List ℕ × List ℕ). (pair.0, escaped pair.1)) xs

are_pieces : (xs : List (List ℕ × List ℕ)) → AllByRecursion IsPair xs → ArePieces (map pair_text xs) (raw_pairs xs)
are_pieces [] all = tt
are_pieces (x ∷ xs) all = (record { joined = refl; key = all.0.key }, are_pieces xs all.1)

valued_more : (key value : List ℕ) (rest : List (List ℕ × List ℕ)) → value ≢ [] → valued_pairs ((key, value) ∷ rest) ≡ (lowered key, percent_decode value) ∷ valued_pairs rest
valued_more key [] rest some = absurd (some refl)
valued_more key (b ∷ value) rest some = refl

two : {a b c d : List ℕ} → a ≡ b → c ≡ d → ◌≡◌ {A = List ℕ × List ℕ} (a, c) (b, d)
two e f = cc (e, f)

valued_raw : (xs : List (List ℕ × List ℕ)) → AllByRecursion IsPair xs → valued_pairs (raw_pairs xs) ≡ xs
valued_raw [] all = refl
valued_raw (x ∷ xs) all =
    valued_more x.0 (escaped x.1) (raw_pairs xs) (escaped_some x.1 all.0.value.some)
    ∙ cons (two all.0.low (decodes x.1 all.0.value)) (valued_raw xs all.1)
  where
    cons : {a b : List ℕ × List ℕ} {r s : List (List ℕ × List ℕ)} → a ≡ b → r ≡ s → a ∷ r ≡ b ∷ s
    cons e f = cc (e, f)

values_good : (xs : List (List ℕ × List ℕ)) → AllByRecursion IsPair xs → AllByRecursion (λ (pair : List ℕ × List ℕ). IsDecodable pair.1) (raw_pairs xs)
values_good [] all = tt
values_good (x ∷ xs) all = (decodable x.1 all.0.value, values_good xs all.1)

distinct : (xs : List (List ℕ × List ℕ)) → Ascending xs → Distinct xs
distinct [] up = tt
distinct (x ∷ xs) up = (others x.0 xs up.0, distinct xs up.1) where
  others : (a : List ℕ) (xs : List (List ℕ × List ℕ)) → AllByRecursion (λ (y : List ℕ × List ℕ). slice_cmp nat_cmp a y.0 ≡ Less) xs → AllByRecursion (λ (y : List ℕ × List ℕ). a ≢ y.0) xs
  others a [] all = tt
  others a (y ∷ ys) all = ((λ e. irreflexive a (subst (λ (k : List ℕ). slice_cmp nat_cmp a k ≡ Less) (sym e) all.0)), others a ys all.1)

pub same_map : (xs ys : List (List ℕ × List ℕ)) → xs ≡ ys → SameMap xs ys
same_map xs ys e x = ((λ m. subst (Member x) e m), (λ m. subst (Member x) (sym e) m))

-- ---- version and subpath

version_good : (v : Option (List ℕ)) → IsVersion v → AllByRecursion IsDecodable (not_empty (option_map escaped v))
version_good None is = tt
version_good (Some v) is = rw (kept_all (escaped v ∷ []) (escaped_some v is.some, tt)) (decodable v is, tt)

version_listed : (v : Option (List ℕ)) → IsVersion v → listed_version v ≡ map percent_decode (not_empty (option_map escaped v))
version_listed None is = refl
version_listed (Some v) is = rw (kept_all (escaped v ∷ []) (escaped_some v is.some, tt), decodes v is) refl

segment_parts : (xs : List (List ℕ)) → AllByRecursion IsSegment xs → AllByRecursion IsPart xs
segment_parts [] all = tt
segment_parts (x ∷ xs) all = (all.0.part, segment_parts xs all.1)

no_dots : (xs : List (List ℕ)) → AllByRecursion IsSegment xs → filter (λ segment. not (is_dots segment)) xs ≡ xs
no_dots [] all = refl
no_dots (x ∷ xs) all = rw (all.0.no_dots, no_dots xs all.1) refl

-- ---- the whole text

abbrev query : Package → Option (List ℕ)
query p = joined_parts 38 (map pair_text p.qualifiers)

abbrev subpath_of : Package → Option (List ℕ)
subpath_of p = joined_parts 47 (map escaped p.subpath)

body_lacks : (c : ℕ) (p : Package) → IsSign c → IsValid p → Lacks c (body_text p)
body_lacks c p sign valid = (
  sign.p,
  (
    sign.k,
    (
      sign.g,
      (
        sign.colon,
        lacks_append c p.kind _ (kind_lacks c p.kind sign valid.kind)
            (sign.slash, lacks_append c (path_text p) _ (path_lacks c p sign.left sign.percent sign.slash) (marked_lacks 64 c (option_map escaped p.version) sign.at (version_lacks p.version))),
      ),
    ),
  ),
)
  where
    version_lacks : (v : Option (List ℕ)) (t : List ℕ) → option_map escaped v ≡ Some t → Lacks c t
    version_lacks None t e = cc e
    version_lacks (Some v) t e = let f : escaped v ≡ t = cc e in subst (Lacks c) f (escaped_lacks c v sign.left sign.percent)

query_lacks : (c : ℕ) (p : Package) → IsSign c → IsValid p → (t : List ℕ) → query p ≡ Some t → Lacks c t
query_lacks c p sign valid = joined_lacks 38 c (map pair_text p.qualifiers) sign.and (all_pairs (Lacks c) (pair_lacks c sign) p.qualifiers valid.pairs)

last_is : (c : ℕ) (front : List ℕ) (x : Option (List ℕ)) → Lacks c front → ((t : List ℕ) → x ≡ Some t → Lacks c t) → IsLastCut c (front ++ marked c x) front x
last_is c front None p q = record { joined = refl; last = p }
last_is c front (Some t) p q = record { joined = refl; last = q t refl }

ended : (p : Package) → IsValid p → IsEnded (purl_text p) (body_text p) (query p) (subpath_of p)
ended p valid = record {
  front = body_text p ++ marked 63 (query p);
  subpath_cut = last_is 35 (body_text p ++ marked 63 (query p)) (subpath_of p)
      (lacks_append 35 (body_text p) _ (body_lacks 35 p hash valid) (marked_lacks 63 35 (query p) (eqb-false _ _ refl) (query_lacks 35 p hash valid)))
      (joined_lacks 47 35 (map escaped p.subpath) (eqb-false _ _ refl) (all_escaped_lack 35 p.subpath refl (eqb-false _ _ refl)));
  qualifiers_cut = last_is 63 (body_text p) (query p) (body_lacks 63 p question valid) (query_lacks 63 p question valid);
}

abbrev raw : Package → Parts
raw p = record {
  scheme = 112 ∷ 107 ∷ 103 ∷ [];
  slashes = [];
  kind = p.kind;
  path = path_text p;
  version = option_map escaped p.version;
  qualifiers = query p;
  subpath = subpath_of p;
}

written : (p : Package) → IsValid p → IsPurlWritten (purl_text p) (raw p)
written p valid = record {
  body = body_text p;
  rest = p.kind ++ 47 ∷ (path_text p ++ marked 64 (option_map escaped p.version));
  behind = path_text p ++ marked 64 (option_map escaped p.version);
  ended = ended p valid;
  scheme_is = record { joined = refl; form = refl };
  type_is = record { joined = refl; slashes_are = tt; form = valid.kind };
  version_cut = version_cut p valid;
  segment = (λ e. not_nil p.namespace p.name (sym (path_pieces p valid) ∙ e));
}

valued_as : (p : Package) → IsValid p → IsValued (raw p) p
valued_as p valid =
    let parts = parts_append p.namespace p.name valid.namespace valid.name in
    let pair_pieces = pieces_joined 38 (map pair_text p.qualifiers) (all_pairs (Lacks 38) pair_and p.qualifiers valid.pairs) (all_pairs (λ (t : List ℕ). t ≢ []) pair_some p.qualifiers valid.pairs) in
    let sub = segment_parts p.subpath valid.subpath in
    let sub_pieces = pieces_joined 47 (map escaped p.subpath) (all_escaped_lack 47 p.subpath refl (eqb-false _ _ refl)) (all_escaped_some p.subpath sub) in
    let values = valued_raw p.qualifiers valid.pairs in
    record {
      kind = sym valid.kind_low;
      path_good = rw (path_pieces p valid) (all_decodable (path_list p) parts);
      path = rw (path_pieces p valid) (sym (all_decode (path_list p) parts));
      version_good = version_good p.version valid.version;
      version = version_listed p.version valid.version;
      pairs = raw_pairs p.qualifiers;
      pairs_are = rw pair_pieces (are_pieces p.qualifiers valid.pairs);
      values_good = values_good p.qualifiers valid.pairs;
      distinct = rw values (distinct p.qualifiers valid.ascending);
      ascending = valid.ascending;
      qualifiers = same_map p.qualifiers (valued_pairs (raw_pairs p.qualifiers)) (sym values);
      subpath_good = rw sub_pieces (all_decodable p.subpath sub);
      subpath = rw (sub_pieces, all_decode p.subpath sub) (sym (no_dots p.subpath valid.subpath));
    }

pub printed : (p : Package) → IsValid p → SpellsPurl (purl_text p) p
printed p valid = record { parts = raw p; written = written p valid; valued_as = valued_as p valid }

-- one text for one value
pub one_printed : (p q : Package) → IsValid p → IsValid q → purl_text p ≡ purl_text q → p ≡ q
one_printed p q x y e = one_value (purl_text p) p q (printed p x) (rw e (printed q y))
