-- The value of a key among pairs, looked for from the front; and one value a key among ascending pairs.
use Rattle.std.proofs.Common.{◌≡◌, ◌≢◌, ◌<◌, ◌≤◌, ◌+◌, ◌++◌, ◌∙◌, ℕ, zero, suc, List, [], ◌∷◌, length, drop, get_or, map, sym, ap, subst, arith, inl, inr, Option, Some, None, IfSome, IfNone, MatchOption, Bor, Less, codes}
use Rattle.std.proofs.lemmas.List.{drop_all, drop_more}
use Rattle.std.specs.List.{AllByRecursion}
use Rattle.std.specs.Ordering.{nat_cmp}
use Rattle.std.specs.Cmp.Lexicographic.{slice_cmp}
use Rattle.purl_core.specs.declared.value.Pair.{Pair}
use Rattle.purl_core.specs.Spelling.{Member, SpellsPurl}
use Rattle.purl_core.specs.Value.{Package, Ascending, pair_view}
use Rattle.purl_core.proofs.OneValue.{irreflexive, one_value}
use Rattle.purl_types.specs.Candidate.{HasEpoch, IsBehindEpoch, IsCandidate}

-- the values of the key stand among what is left
abbrev pub IsLeft : List ℕ → List Pair → ℕ → Type 0
IsLeft key pairs i = (value : List ℕ) → Member (key, value) (map pair_view pairs) → Member (key, value) (map pair_view (drop i pairs))

pub not_here : (key : List ℕ) (pairs : List Pair) (i : ℕ) (x : Pair) → i < length pairs → x ≡ get_or pairs i x → x.key ≢ key → IsLeft key pairs i → IsLeft key pairs (i + 1)
not_here key pairs i x within is apart left value m = by_side (subst (λ (l : List Pair). Member (key, value) (map pair_view l)) (drop_more pairs i x within ∙ ap (λ (y : Pair). y ∷ drop (i + 1) pairs) (sym is)) (left value m))
  where
    by_side : Member (key, value) (pair_view x ∷ map pair_view (drop (i + 1) pairs)) → Member (key, value) (map pair_view (drop (i + 1) pairs))
    by_side (inl e) = absurd (apart (sym (ap (λ (p : List ℕ × List ℕ). p.0) e)))
    by_side (inr n) = n

pub nowhere : (key : List ℕ) (pairs : List Pair) (i : ℕ) → length pairs ≤ i → IsLeft key pairs i → (value : List ℕ) → ¬ (Member (key, value) (map pair_view pairs))
nowhere key pairs i past left value m = subst (λ (l : List Pair). Member (key, value) (map pair_view l)) (drop_all i pairs past) (left value m)

pub member_at : (key : List ℕ) (pairs : List Pair) (i : ℕ) (x : Pair) → i < length pairs → x ≡ get_or pairs i x → x.key ≡ key → Member (key, x.value) (map pair_view pairs)
member_at key [] i x within is same = absurd (omega (arith, within))
member_at key (p ∷ pairs) zero x within is same = inl (ap (λ (k : List ℕ). (k, x.value)) (sym same) ∙ ap pair_view is)
member_at key (p ∷ pairs) (suc i) x within is same = inr (member_at key pairs i x (omega (arith, within)) is same)

-- ---- one value a key

below_none : (key value : List ℕ) (pairs : List (List ℕ × List ℕ)) → AllByRecursion (λ (y : List ℕ × List ℕ). slice_cmp nat_cmp key y.0 ≡ Less) pairs → ¬ (Member (key, value) pairs)
below_none key value [] all m = m
below_none key value (y ∷ ys) all (inl e) = irreflexive key (ap (slice_cmp nat_cmp key) (ap (λ (p : List ℕ × List ℕ). p.0) e) ∙ all.0)
below_none key value (y ∷ ys) all (inr m) = below_none key value ys all.1 m

pub one_value_of : (key v w : List ℕ) (pairs : List (List ℕ × List ℕ)) → Ascending pairs → Member (key, v) pairs → Member (key, w) pairs → v ≡ w
one_value_of key v w [] up m n = absurd m
one_value_of key v w (y ∷ ys) up (inl e) (inl f) = ap (λ (p : List ℕ × List ℕ). p.1) (e ∙ sym f)
one_value_of key v w (y ∷ ys) up (inl e) (inr n) = absurd (below_none key w ys (subst (λ (k : List ℕ). AllByRecursion (λ (z : List ℕ × List ℕ). slice_cmp nat_cmp k z.0 ≡ Less) ys) (sym (ap (λ (p : List ℕ × List ℕ). p.0) e)) up.0) n)
one_value_of key v w (y ∷ ys) up (inr m) (inl f) = absurd (below_none key v ys (subst (λ (k : List ℕ). AllByRecursion (λ (z : List ℕ × List ℕ). slice_cmp nat_cmp k z.0 ≡ Less) ys) (sym (ap (λ (p : List ℕ × List ℕ). p.0) f)) up.0) m)
one_value_of key v w (y ∷ ys) up (inr m) (inr n) = one_value_of key v w ys up.1 m n

-- ---- one candidate

module _ (p : Package) (up : Ascending p.qualifiers) where
  behind_one : (version a b : List ℕ) → IsBehindEpoch p version a → IsBehindEpoch p version b → a ≡ b
  behind_one version a b (inl (x, h, e)) (inl (y, k, f)) = e ∙ ap (λ (epoch : List ℕ). epoch ++ codes ":" ++ version) (one_value_of (codes "epoch") x y p.qualifiers up h.1 k.1) ∙ sym f
  behind_one version a b (inl (x, h, e)) (inr (none, f)) = absurd (none x h)
  behind_one version a b (inr (none, e)) (inl (y, k, f)) = absurd (none y k)
  behind_one version a b (inr (none, e)) (inr (also, f)) = e ∙ sym f

  one_version : (v w : List ℕ) → p.version ≡ Some v → p.version ≡ Some w → v ≡ w
  one_version v w e f = cc (e, f)

  pub one_candidate : (a b : List ℕ) → IsCandidate p a → IsCandidate p b → a ≡ b
  one_candidate a b x y = behind_one x.version a b x.is (subst (λ version. IsBehindEpoch p version b) (one_version y.version x.version y.there x.there) y.is)

pub one_candidate_of : (text a b : List ℕ) (p q : Package) → SpellsPurl text p → SpellsPurl text q → IsCandidate p a → IsCandidate q b → a ≡ b
one_candidate_of text a b p q x y m n = one_candidate p x.valued_as.ascending a b m (subst (λ (r : Package). IsCandidate r b) (one_value text q p y x) n)

pub none_of : (text candidate : List ℕ) (p q : Package) → SpellsPurl text p → SpellsPurl text q → q.version ≡ None → ¬ (IsCandidate p candidate)
none_of text candidate p q x y none m =
    let e : p.version ≡ None = ap (λ (r : Package). r.version) (one_value text p q x y) ∙ none in
    cc (e, m.there)

-- ---- the epoch

pub epoch_found : (p : Package) (found : Option (Bor (List ℕ))) (pairs : List Pair) → p.kind ≡ codes "rpm" → map pair_view pairs ≡ p.qualifiers
    → IfSome found (λ value. Member (codes "epoch", value.now) (map pair_view pairs)) → IfNone found ((value : List ℕ) → ¬ (Member (codes "epoch", value) (map pair_view pairs)))
    → MatchOption found ((epoch : List ℕ) → ¬ (HasEpoch p epoch)) (λ epoch. HasEpoch p epoch.now)
epoch_found p None pairs rpm same some none = λ epoch h. none epoch (subst (Member (codes "epoch", epoch)) (sym same) h.1)
epoch_found p (Some value) pairs rpm same some none = (rpm, subst (Member (codes "epoch", value.now)) same some)
