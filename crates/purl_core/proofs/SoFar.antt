-- What is known of the pieces that were put in order so far.
use Rattle.std.proofs.Common.{◌≡◌, ◌≢◌, ◌++◌, ◌⊎◌, ℕ, Bool, true, false, List, [], ◌∷◌, map, refl, sym, ap, ◌∙◌, subst, inl, inr, append_assoc, append-nil, Ordering, Less, Equal, Greater, Option, Some, None, String, string_bytes, Global, ◌<◌, ◌+◌, length, arith}
use Rattle.std.specs.Ordering.{nat_cmp, is_eq, ordering_reverse}
use Rattle.std.specs.Cmp.Lexicographic.{slice_cmp}
use Rattle.std.specs.BTreeMap.{insert_entry}
use Rattle.std.specs.Map.{lookup}
use Rattle.std.specs.Prelude.{string_cmp, is_some, IsSome}
use Rattle.std.specs.Cmp.{tied_itself}
use Rattle.std.specs.List.{AllByRecursion}
use Rattle.std.specs.Char.{is_ascii_alphabetic}
use Rattle.std.specs.Str.{IsUtf8}
use Rattle.std.proofs.lemmas.Bool.{and_parts, false≢true, cases_Bool}
use Rattle.std.proofs.lemmas.Bool.Decides.{nat_tests}
use Rattle.std.proofs.lemmas.Cmp.{nat_list_cmp_total}
use Rattle.std.proofs.lemmas.List.{map-append}
use Rattle.std.proofs.lemmas.Map.Lookups.{exact_bytes}
use Rattle.vx_spec.proofs.TextLaws.{each_by_test, utf8_by_each}
use Rattle.vx_text.specs.Escapes.{unescaped}
use Rattle.vx_text.specs.Folding.{lowered}
use Rattle.purl_core.specs.Value.{Ascending, is_key, is_key_byte}
use Rattle.purl_core.specs.Spelling.{Distinct, IsPiece, Member, SameMap}
use Rattle.purl_core.specs.Places.{AllPieces, AllText, AreKeyed, HasKey, IsDuplicateAt, keyed_pair, value_in, without_places}
use Rattle.purl_core.specs.Steps.Pairing.{PutsKeyed, PutsPair, PutsPiece, entry_view, put}
use Rattle.purl_core.proofs.OneValue.{key_lacks}
use Rattle.purl_core.proofs.Put.{put_ascending, put_same}
use Rattle.purl_core.proofs.Splits.{value_cut}

-- ---- keys

has_key_member : (key : List ℕ) (xs : List (List ℕ × List ℕ)) → HasKey key xs → (value : List ℕ) × Member (key, value) xs
has_key_member key [] h = absurd h
has_key_member key (x ∷ xs) (inl e) = (x.1, inl (pair_of e)) where
  pair_of : key ≡ x.0 → ◌≡◌ {A = List ℕ × List ℕ} (key, x.1) x
  pair_of e = ap (λ (k : List ℕ). (k, x.1)) e
has_key_member key (x ∷ xs) (inr h) = let r = has_key_member key xs h in (r.0, inr r.1)

member_has_key : (x : List ℕ × List ℕ) (xs : List (List ℕ × List ℕ)) → Member x xs → HasKey x.0 xs
member_has_key x [] m = absurd m
member_has_key x (y ∷ ys) (inl e) = inl (ap (λ (p : List ℕ × List ℕ). p.0) e)
member_has_key x (y ∷ ys) (inr m) = inr (member_has_key x ys m)

same_keys : (key : List ℕ) (xs ys : List (List ℕ × List ℕ)) → SameMap xs ys → HasKey key xs → HasKey key ys
same_keys key xs ys same h = let r = has_key_member key xs h in member_has_key (key, r.0) ys ((same (key, r.0)).0 r.1)

same_keys_back : (key : List ℕ) (xs ys : List (List ℕ × List ℕ)) → SameMap xs ys → HasKey key ys → HasKey key xs
same_keys_back key xs ys same h = let r = has_key_member key ys h in member_has_key (key, r.0) xs ((same (key, r.0)).1 r.1)

all_other : (key : List ℕ) (xs : List (List ℕ × List ℕ)) → ¬ (HasKey key xs) → AllByRecursion (λ (y : List ℕ × List ℕ). key ≢ y.0) xs
all_other key [] new = tt
all_other key (x ∷ xs) new = ((λ e. new (inl e)), all_other key xs (λ h. new (inr h)))

others_more : (x y : List ℕ × List ℕ) (xs : List (List ℕ × List ℕ)) → AllByRecursion (λ (z : List ℕ × List ℕ). y.0 ≢ z.0) xs → y.0 ≢ x.0
    → AllByRecursion (λ (z : List ℕ × List ℕ). y.0 ≢ z.0) (xs ++ x ∷ [])
others_more x y [] all other = (other, tt)
others_more x y (z ∷ xs) all other = (all.0, others_more x y xs all.1 other)

distinct_more : (x : List ℕ × List ℕ) (xs : List (List ℕ × List ℕ)) → Distinct xs → ¬ (HasKey x.0 xs) → Distinct (xs ++ x ∷ [])
distinct_more x [] all new = (tt, tt)
distinct_more x (y ∷ xs) all new = (others_more x y xs all.0 (λ e. new (inl (sym e))), distinct_more x xs all.1 (λ h. new (inr h)))

member_front : (x z : List ℕ × List ℕ) (xs : List (List ℕ × List ℕ)) → Member z (x ∷ xs) → Member z (xs ++ x ∷ [])
member_front x z [] m = m
member_front x z (y ∷ xs) (inl e) = inr (member_front x z xs (inl e))
member_front x z (y ∷ xs) (inr (inl e)) = inl e
member_front x z (y ∷ xs) (inr (inr m)) = inr (member_front x z xs (inr m))

member_back : (x z : List ℕ × List ℕ) (xs : List (List ℕ × List ℕ)) → Member z (xs ++ x ∷ []) → Member z (x ∷ xs)
member_back x z [] m = m
member_back x z (y ∷ xs) (inl e) = inr (inl e)
member_back x z (y ∷ xs) (inr m) = swap (member_back x z xs m) where
  swap : Member z (x ∷ xs) → Member z (x ∷ y ∷ xs)
  swap (inl e) = inl e
  swap (inr n) = inr (inr n)

cons_map : (x z : List ℕ × List ℕ) (xs ys : List (List ℕ × List ℕ)) → SameMap xs ys → Member z (x ∷ xs) → Member z (x ∷ ys)
cons_map x z xs ys same (inl e) = inl e
cons_map x z xs ys same (inr m) = inr ((same z).0 m)

cons_map_back : (x z : List ℕ × List ℕ) (xs ys : List (List ℕ × List ℕ)) → SameMap xs ys → Member z (x ∷ ys) → Member z (x ∷ xs)
cons_map_back x z xs ys same (inl e) = inl e
cons_map_back x z xs ys same (inr m) = inr ((same z).1 m)

same_more : (x : List ℕ × List ℕ) (xs ys : List (List ℕ × List ℕ)) → SameMap xs ys → SameMap (put x xs) (ys ++ x ∷ [])
same_more x xs ys same z = (
  (λ m. member_front x z ys (cons_map x z xs ys same ((put_same x xs z).0 m))),
  (λ m. (put_same x xs z).1 (cons_map_back x z xs ys same (member_back x z ys m))),
)

-- ---- the pieces so far

pub record IsSoFar (pieces rest : List (ℕ × List ℕ)) (entries : List (List ℕ × List ℕ)) : Type 0 where
  pub keyed : List (ℕ × (List ℕ × List ℕ))
  pub front : (more : List (ℕ × (List ℕ × List ℕ))) → AreKeyed rest more → AreKeyed pieces (keyed ++ more)
  pub distinct : Distinct (without_places keyed)
  pub same : SameMap entries (without_places keyed)
  pub up : Ascending entries

equal_if : (o : Ordering) → is_eq o ≡ true → o ≡ Equal
equal_if Less e = absurd (false≢true e)
equal_if Equal e = refl
equal_if Greater e = absurd (false≢true e)

pub at_start : (pieces : List (ℕ × List ℕ)) → IsSoFar pieces pieces []
at_start pieces = record {
  keyed = [];
  front = λ more h. h;
  distinct = tt;
  same = λ x. ((λ m. m), (λ m. m));
  up = tt;
}

without_more : (keyed : List (ℕ × (List ℕ × List ℕ))) (entry : ℕ × (List ℕ × List ℕ)) → without_places (keyed ++ entry ∷ []) ≡ without_places keyed ++ entry.1 ∷ []
without_more keyed entry = map-append (λ (e : ℕ × (List ℕ × List ℕ)). e.1) keyed (entry ∷ [])

-- the pairs that a piece gives are none or one
one_keyed : (at : ℕ) (pair : List ℕ × List ℕ) → (keyed_pair at pair ≡ []) ⊎ ((q : List ℕ × List ℕ) × (keyed_pair at pair ≡ (at, q) ∷ []))
one_keyed at (key, []) = inl refl
one_keyed at (key, b ∷ value) = inr (_, refl)

pub one_more : (pieces rest : List (ℕ × List ℕ)) (piece : ℕ × List ℕ) (old new : List (List ℕ × List ℕ)) → IsSoFar pieces (piece ∷ rest) old → PutsPiece old new piece false
    → IsSoFar pieces rest new
one_more pieces rest piece old new f (pair, is, puts) = elim (one_keyed piece.0 pair) [
  | inl none ↦
      let same : new ≡ old = subst (λ k. PutsKeyed old new k false) none puts in
      subst (IsSoFar pieces rest) (sym same) (record {
        keyed = f.keyed;
        front = λ more h. f.front more (pair, more, is, h, ap (λ (k : List (ℕ × (List ℕ × List ℕ))). k ++ more) (sym none));
        distinct = f.distinct;
        same = f.same;
        up = f.up;
      })
  | inr (q, one) ↦
      let put_in = subst (λ k. PutsKeyed old new k false) one puts in
      let entry : ℕ × (List ℕ × List ℕ) = (piece.0, q) in
      let none : ¬ (HasKey q.0 (without_places f.keyed)) = λ h. put_in.0 (same_keys_back q.0 old (without_places f.keyed) f.same h) in
      record {
        keyed = f.keyed ++ entry ∷ [];
        front = λ more h. subst (AreKeyed pieces) (sym (append_assoc f.keyed (entry ∷ []) more))
            (f.front (entry ∷ more) (pair, more, is, h, ap (λ (k : List (ℕ × (List ℕ × List ℕ))). k ++ more) (sym one)));
        distinct = subst Distinct (sym (without_more f.keyed entry)) (distinct_more q (without_places f.keyed) f.distinct none);
        same = subst (SameMap new) (sym (without_more f.keyed entry))
            (subst (λ n. SameMap n (without_places f.keyed ++ q ∷ [])) (sym put_in.1) (same_more q old (without_places f.keyed) f.same));
        up = subst Ascending (sym put_in.1) (put_ascending q old f.up (all_other q.0 old put_in.0));
      }
]

-- pieces that are pairs have keys
all_keyed : (pieces : List (ℕ × List ℕ)) → AllPieces pieces → (keyed : List (ℕ × (List ℕ × List ℕ))) × AreKeyed pieces keyed
all_keyed [] all = ([], refl)
all_keyed (piece ∷ pieces) all =
    let rest = all_keyed pieces all.1 in
    (keyed_pair piece.0 all.0.0 ++ rest.0, (all.0.0, rest.0, all.0.1, rest.1, refl))

pub twice_at : (pieces rest : List (ℕ × List ℕ)) (piece : ℕ × List ℕ) (old new : List (List ℕ × List ℕ)) → IsSoFar pieces (piece ∷ rest) old → PutsPiece old new piece true
    → AllPieces rest → (keyed : List (ℕ × (List ℕ × List ℕ))) × AreKeyed pieces keyed × IsDuplicateAt keyed piece.0
twice_at pieces rest piece old new f (pair, is, puts) good = elim (one_keyed piece.0 pair) [
  | inl none ↦ absurd (subst (λ k. PutsKeyed old new k true) none puts)
  | inr (q, one) ↦
      let stood : HasKey q.0 old = subst (λ k. PutsKeyed old new k true) one puts in
      let more = all_keyed rest good in
      let entry : ℕ × (List ℕ × List ℕ) = (piece.0, q) in (
        f.keyed ++ entry ∷ more.0,
        f.front (entry ∷ more.0) (pair, more.0, is, more.1, ap (λ (k : List (ℕ × (List ℕ × List ℕ))). k ++ more.0) (sym one)),
        record {
          before = f.keyed;
          pair = q;
          behind = more.0;
          split = refl;
          first = f.distinct;
          twice = same_keys q.0 old (without_places f.keyed) f.same stood;
        },
      )
]

-- ---- the entries of the map

lookup_key : (key : String Global) (es : List (String Global × List ℕ)) → IsSome (lookup (λ k. is_eq (string_cmp key k)) es) → HasKey (string_bytes key) (map entry_view es)
lookup_key key [] h = absurd (false≢true h)
lookup_key key (e ∷ es) h = elim (cases_Bool (is_eq (string_cmp key e.0))) [
  | inl is ↦ inl (exact_bytes (string_bytes key) (string_bytes e.0) (equal_if (string_cmp key e.0) is))
  | inr other ↦ inr (lookup_key key es (rw other at h))
]

lookup_if : (key : String Global) (es : List (String Global × List ℕ)) → HasKey (string_bytes key) (map entry_view es) → IsSome (lookup (λ k. is_eq (string_cmp key k)) es)
lookup_if key [] h = absurd h
lookup_if key (e ∷ es) (inl same) =
    let tied : string_cmp key e.0 ≡ Equal = subst (λ (k : List ℕ). slice_cmp nat_cmp (string_bytes key) k ≡ Equal) same (tied_itself nat_list_cmp_total (string_bytes key)) in
    rw tied refl
lookup_if key (e ∷ es) (inr h) = elim (cases_Bool (is_eq (string_cmp key e.0))) [
  | inl is ↦ rw is refl
  | inr other ↦ rw other (lookup_if key es h)
]

-- a new key goes to its place
goes : (key : String Global) (value : List ℕ) (e : String Global × List ℕ) (es : List (String Global × List ℕ)) → ¬ (HasKey (string_bytes key) (map entry_view (e ∷ es)))
    → map entry_view (insert_entry string_cmp es key value) ≡ put (string_bytes key, value) (map entry_view es)
    → (o : Ordering) → string_cmp key e.0 ≡ o → map entry_view (insert_entry string_cmp (e ∷ es) key value) ≡ put (string_bytes key, value) (map entry_view (e ∷ es))
goes key value e es new rest Less is =
    let back : slice_cmp nat_cmp (string_bytes e.0) (string_bytes key) ≡ Greater = nat_list_cmp_total.antisymm (string_bytes e.0) (string_bytes key) ∙ ap ordering_reverse is in
    rw (is, back) refl
goes key value e es new rest Equal is = absurd (new (inl (exact_bytes (string_bytes key) (string_bytes e.0) is)))
goes key value e es new rest Greater is =
    let back : slice_cmp nat_cmp (string_bytes e.0) (string_bytes key) ≡ Less = nat_list_cmp_total.antisymm (string_bytes e.0) (string_bytes key) ∙ ap ordering_reverse is in
    rw (is, back) (ap (λ (l : List (List ℕ × List ℕ)). entry_view e ∷ l) rest)

inserted : (key : String Global) (value : List ℕ) (es : List (String Global × List ℕ)) → ¬ (HasKey (string_bytes key) (map entry_view es))
    → map entry_view (insert_entry string_cmp es key value) ≡ put (string_bytes key, value) (map entry_view es)
inserted key value [] new = refl
inserted key value (e ∷ es) new = goes key value e es new (inserted key value es (λ h. new (inr h))) (string_cmp key e.0) refl

-- what inserting a pair answers and leaves
pub put_is : (key : String Global) (value : List ℕ) (old new : List (String Global × List ℕ)) (answer : Option (List ℕ)) → answer ≡ lookup (λ k. is_eq (string_cmp key k)) old
    → new ≡ insert_entry string_cmp old key value → PutsPair (map entry_view old) (map entry_view new) (string_bytes key, value) (is_some answer)
put_is key value old new (Some v) is at = lookup_key key old (ap is_some (sym is))
put_is key value old new None is at =
    let none : ¬ (HasKey (string_bytes key) (map entry_view old)) = λ h. false≢true (ap is_some is ∙ lookup_if key old h) in
    (none, ap (map entry_view) at ∙ inserted key value old none)

-- ---- the pieces one by one

pub first_value : (piece : List ℕ) (at : ℕ) (pair : List ℕ × List ℕ) → IsPiece piece pair → value_in at piece ≡ (at + length pair.0 + 1, pair.1) ∷ []
first_value piece at pair is = value_cut at piece pair.0 pair.1 (record { joined = is.joined; first = key_lacks 61 pair.0 refl refl is.key })

pub value_text : (piece : List ℕ) (at : ℕ) (pair : List ℕ × List ℕ) → IsPiece piece pair → AllText (value_in at piece) → IsUtf8 (unescaped pair.1)
value_text piece at pair is all = (subst AllText (first_value piece at pair is) all).0

key_small : (b : ℕ) → is_key_byte b ≡ true → b < 128
key_small b is = grind (arith, nat_tests)

letter_small : (b : ℕ) → is_ascii_alphabetic b ≡ true → b < 128
letter_small b is = grind (arith, nat_tests)

-- a key is UTF-8
pub key_text : (key : List ℕ) → is_key key ≡ true → IsUtf8 key
key_text [] is = absurd (false≢true is)
key_text (b ∷ key) is =
    let a = and_parts _ _ is in
    utf8_by_each (b ∷ key) (letter_small b a.0, each_by_test (λ c. c < 128) is_key_byte key key_small a.1)

-- a piece without a value changes nothing
pub puts_none : (entries : List (List ℕ × List ℕ)) (piece : ℕ × List ℕ) (pair : List ℕ × List ℕ) → IsPiece piece.1 pair → pair.1 ≡ [] → PutsPiece entries entries piece false
puts_none entries piece pair is none = (pair, is, go pair none) where
  go : (p : List ℕ × List ℕ) → p.1 ≡ [] → PutsKeyed entries entries (keyed_pair piece.0 p) false
  go (key, []) e = refl
  go (key, b ∷ value) e = cc e

-- and one with a value puts its pair
pub puts_some : (old new : List (List ℕ × List ℕ)) (piece : ℕ × List ℕ) (pair : List ℕ × List ℕ) (twice : Bool) → IsPiece piece.1 pair → pair.1 ≢ []
    → PutsPair old new (lowered pair.0, unescaped pair.1) twice → PutsPiece old new piece twice
puts_some old new piece pair twice is some puts = (pair, is, go pair some puts) where
  go : (p : List ℕ × List ℕ) → p.1 ≢ [] → PutsPair old new (lowered p.0, unescaped p.1) twice → PutsKeyed old new (keyed_pair piece.0 p) twice
  go (key, []) other h = absurd (other refl)
  go (key, b ∷ value) other h = h

pub puts_as : (old new : List (List ℕ × List ℕ)) (a b c d : List ℕ) (twice told : Bool) → a ≡ c → b ≡ d → told ≡ twice → PutsPair old new (a, b) twice → PutsPair old new (c, d) told
puts_as old new a b c d twice told e f g h =
    subst (λ (k : List ℕ). PutsPair old new (k, d) told) e (subst (λ (v : List ℕ). PutsPair old new (a, v) told) f (subst (PutsPair old new (a, b)) (sym g) h))

pub at_end : (pieces : List (ℕ × List ℕ)) (entries pairs : List (List ℕ × List ℕ)) → IsSoFar pieces [] entries → pairs ≡ entries
    → (keyed : List (ℕ × (List ℕ × List ℕ))) × AreKeyed pieces keyed × Distinct (without_places keyed) × SameMap pairs (without_places keyed) × Ascending pairs
at_end pieces entries pairs f e =
    (f.keyed, subst (AreKeyed pieces) (append-nil f.keyed) (f.front [] refl), f.distinct, subst (λ p. SameMap p (without_places f.keyed)) (sym e) f.same, subst Ascending (sym e) f.up)
