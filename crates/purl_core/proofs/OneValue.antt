-- A text spells one package URL.
use Rattle.std.proofs.Common.{◌≡◌, ◌≢◌, ◌++◌, ℕ, true, false, List, [], ◌∷◌, refl, sym, ap, ◌∙◌, subst, Option, Some, None, inl, inr}
use Rattle.std.specs.List.{AllByRecursion}
use Rattle.std.proofs.Common.{Less}
use Rattle.std.specs.Ordering.{nat_cmp, ordering_reverse}
use Rattle.std.specs.Cmp.Lexicographic.{slice_cmp}
use Rattle.std.specs.Char.{is_ascii_alphabetic}
use Rattle.std.proofs.lemmas.Bool.{and_parts, false≢true}
use Rattle.std.proofs.lemmas.Cmp.{nat_list_cmp_total}
use Rattle.vx_spec.specs.Marks.{Lacks}
use Rattle.purl_core.specs.Grammar.{Parts}
use Rattle.vx_spec.proofs.EndLaws.{lacks_by}
use Rattle.vx_spec.proofs.MarkLaws.{one_cut}
use Rattle.purl_core.proofs.PartLaws.{one_written}
use Rattle.purl_core.specs.Value.{Package, is_key, is_key_byte, Ascending}
use Rattle.purl_core.specs.Spelling.{IsPiece, ArePieces, Member, SameMap, valued_pairs, listed_version, IsValued, SpellsPurl}

pub key_lacks : (c : ℕ) (key : List ℕ) → is_ascii_alphabetic c ≡ false → is_key_byte c ≡ false → is_key key ≡ true → Lacks c key
key_lacks c [] no_letter no_byte is = tt
key_lacks c (b ∷ key) no_letter no_byte is =
    let a = and_parts _ _ is in
    ((λ e. false≢true (sym no_letter ∙ sym (ap is_ascii_alphabetic e) ∙ a.0)), lacks_by is_key_byte c no_byte key a.1)

pub one_piece : (piece : List ℕ) (x y : List ℕ × List ℕ) → IsPiece piece x → IsPiece piece y → x ≡ y
one_piece piece x y p q =
    let e = one_cut 61 x.0 y.0 (Some x.1) (Some y.1) (key_lacks 61 x.0 refl refl p.key) (key_lacks 61 y.0 refl refl q.key) (sym p.joined ∙ q.joined) in
    let v : x.1 ≡ y.1 = cc (e.1) in
    pair_same e.0 v
  where
    pair_same : {a b c d : List ℕ} → a ≡ b → c ≡ d → ◌≡◌ {A = List ℕ × List ℕ} (a, c) (b, d)
    pair_same e f = cc (e, f)

pub one_pieces : (pieces : List (List ℕ)) (xs ys : List (List ℕ × List ℕ)) → ArePieces pieces xs → ArePieces pieces ys → xs ≡ ys
one_pieces [] [] [] p q = refl
one_pieces [] [] (y ∷ ys) p q = absurd q
one_pieces [] (x ∷ xs) ys p q = absurd p
one_pieces (t ∷ ts) [] ys p q = absurd p
one_pieces (t ∷ ts) (x ∷ xs) [] p q = absurd q
one_pieces (t ∷ ts) (x ∷ xs) (y ∷ ys) p q = cc (one_piece t x y p.0 q.0, one_pieces ts xs ys p.1 q.1)

-- ---- ascending lists with the same members

pub irreflexive : (a : List ℕ) → slice_cmp nat_cmp a a ≢ Less
irreflexive a e =
    let r = nat_list_cmp_total.antisymm a a in
    let f : Less ≡ ordering_reverse Less = sym e ∙ r ∙ ap ordering_reverse e in cc (f)

below_member : (a : List ℕ) (xs : List (List ℕ × List ℕ)) (x : List ℕ × List ℕ) → AllByRecursion (λ (y : List ℕ × List ℕ). slice_cmp nat_cmp a y.0 ≡ Less) xs
    → Member x xs → slice_cmp nat_cmp a x.0 ≡ Less
below_member a [] x all m = absurd m
below_member a (y ∷ ys) x all (inl e) = rw e (all.0)
below_member a (y ∷ ys) x all (inr m) = below_member a ys x all.1 m

heads : (x y : List ℕ × List ℕ) (xs ys : List (List ℕ × List ℕ)) → Ascending (x ∷ xs) → Ascending (y ∷ ys) → Member x (y ∷ ys) → Member y (x ∷ xs) → x ≡ y
heads x y xs ys p q (inl e) n = e
heads x y xs ys p q (inr m) (inl e) = sym e
heads x y xs ys p q (inr m) (inr n) =
    let less = nat_list_cmp_total.trans x.0 y.0 x.0 (below_member x.0 xs y p.0 n) (below_member y.0 ys x q.0 m) in
    absurd (irreflexive x.0 less)

tail_member : (x y z : List ℕ × List ℕ) (xs ys : List (List ℕ × List ℕ)) → x ≡ y → Ascending (x ∷ xs) → Member z xs → Member z (y ∷ ys) → Member z ys
tail_member x y z xs ys same p m (inr n) = n
tail_member x y z xs ys same p m (inl e) =
    absurd (irreflexive x.0 (subst (λ (k : List ℕ × List ℕ). slice_cmp nat_cmp x.0 k.0 ≡ Less) (e ∙ sym same) (below_member x.0 xs z p.0 m)))

-- ascending lists that hold the same pairs are equal
pub same_lists : (xs ys : List (List ℕ × List ℕ)) → Ascending xs → Ascending ys → SameMap xs ys → xs ≡ ys
same_lists [] [] p q same = refl
same_lists [] (y ∷ ys) p q same = absurd ((same y).1 (inl refl))
same_lists (x ∷ xs) [] p q same = absurd ((same x).0 (inl refl))
same_lists (x ∷ xs) (y ∷ ys) p q same =
    let first = heads x y xs ys p q ((same x).0 (inl refl)) ((same y).1 (inl refl)) in
    let rest = same_lists xs ys p.1 q.1 (λ z. (
      (λ m. tail_member x y z xs ys first p m ((same z).0 (inr m))),
      (λ m. tail_member y x z ys xs (sym first) q m ((same z).1 (inr m))),
    )) in
    cc (first, rest)

-- ---- whole values

last_apart : (xs ys : List (List ℕ)) (x y : List ℕ) → xs ++ x ∷ [] ≡ ys ++ y ∷ [] → (xs ≡ ys) × (x ≡ y)
last_apart [] [] x y e = (refl, cc e)
last_apart [] (b ∷ []) x y e = cc e
last_apart [] (b ∷ c ∷ ys) x y e = cc e
last_apart (a ∷ []) [] x y e = cc e
last_apart (a ∷ c ∷ xs) [] x y e = cc e
last_apart (a ∷ xs) (b ∷ ys) x y e = let r = last_apart xs ys x y (cc e) in (cc (e, r.0), r.1)

one_listed : (x y : Option (List ℕ)) → listed_version x ≡ listed_version y → x ≡ y
one_listed None None e = refl
one_listed None (Some t) e = cc e
one_listed (Some s) None e = cc e
one_listed (Some s) (Some t) e = cc e

pub same_package : {k k' n n' : List ℕ} {s s' u u' : List (List ℕ)} {v v' : Option (List ℕ)} {q q' : List (List ℕ × List ℕ)}
    → k ≡ k' → s ≡ s' → n ≡ n' → v ≡ v' → q ≡ q' → u ≡ u'
    → ◌≡◌ {A = Package} (record { kind = k; namespace = s; name = n; version = v; qualifiers = q; subpath = u })
    (record { kind = k'; namespace = s'; name = n'; version = v'; qualifiers = q'; subpath = u' })
same_package a b c d e f = cc (a, b, c, d, e, f)

swap_map : (xs ys zs : List (List ℕ × List ℕ)) → SameMap xs zs → SameMap ys zs → SameMap xs ys
swap_map xs ys zs p q x = ((λ m. (q x).1 ((p x).0 m)), (λ m. (p x).1 ((q x).0 m)))

one_valued : (parts : Parts) (p q : Package) → IsValued parts p → IsValued parts q → p ≡ q
one_valued parts p q x y =
    let path = last_apart p.namespace q.namespace p.name q.name (x.path ∙ sym y.path) in
    let pairs = one_pieces _ x.pairs y.pairs x.pairs_are y.pairs_are in
    let map_of : SameMap q.qualifiers (valued_pairs x.pairs) = rw pairs y.qualifiers in
    same_package (x.kind ∙ sym y.kind) path.0 path.1 (one_listed p.version q.version (x.version ∙ sym y.version))
    (same_lists p.qualifiers q.qualifiers x.ascending y.ascending (swap_map p.qualifiers q.qualifiers (valued_pairs x.pairs) x.qualifiers map_of)) (x.subpath ∙ sym y.subpath)

pub one_value : (text : List ℕ) (p q : Package) → SpellsPurl text p → SpellsPurl text q → p ≡ q
one_value text p q x y = one_valued x.parts p q x.valued_as (rw (one_written text x.parts y.parts x.written y.written) y.valued_as)
