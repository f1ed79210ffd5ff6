-- A text has one reading and one first refusal, and it is absurd that it has none of the two.
use Rattle.std.proofs.Common.{◌≡◌, ℕ, List, [], ◌∷◌, refl, sym, ap, ◌∙◌, subst, inl, inr, ◌⊎◌, Option, Some, None}
use Rattle.vx_spec.specs.Each.{AreEach}
use Rattle.vx_spec.specs.Firsts.{IsFirst}
use Rattle.vx_spec.proofs.EachLaws.{one_each}
use Rattle.vx_spec.proofs.FirstLaws.{one_first}
use Rattle.vx_scheme.specs.declared.range_fault.EndKind.{EndKind}
use Rattle.vx_scheme.specs.declared.range_fault.RangeFault.{RangeFault}
use Rattle.vx_scheme.specs.declared.range_fault.RangeFault.TheVariants.{Syntax, Numeral, NoEndpoint, NoMemory}
use Rattle.vx_range.specs.declared.making.Outcome.{Outcome}
use Rattle.vx_range.specs.declared.making.Outcome.TheVariants as made_of
use Rattle.vx_range.specs.Pieces.{Written}
use Rattle.vx_range.specs.Reading.{IsNoConstruct, IsPastNumeral, PieceLaws, CutLaws, ReadsGroups, Reads, FirstSyntax, FirstNumeral}
use Rattle.vx_range.specs.Making.{Makes, IsEndless, IsTooHigh, FirstEndless, FirstTooHigh}
use Rattle.vx_range.specs.Ranges.{RefusesGroups, RefusesText}

none_each : {A B R : Type 0} (Q : A → B → Type 0) (Refuses : A → Option R → Type 0) → ((x : A) (y : B) → Q x y → Refuses x None) → (xs : List A) (ys : List B) → AreEach Q xs ys → IsFirst Refuses xs None
none_each Q Refuses pass [] [] p = refl
none_each Q Refuses pass [] (y ∷ ys) p = absurd p
none_each Q Refuses pass (x ∷ xs) [] p = absurd p
none_each Q Refuses pass (x ∷ xs) (y ∷ ys) p = inl (pass x y p.0, none_each Q Refuses pass xs ys p.1)

-- it is absurd that no answer is the first, where that is so of each item
some_first : {A R : Type 0} (Refuses : A → Option R → Type 0) → ((x : A) → ((r : Option R) → ¬ (Refuses x r)) → ⊥) → (xs : List A) → ((r : Option R) → ¬ (IsFirst Refuses xs r)) → ⊥
some_first Refuses each [] k = k None refl
some_first {A} {R} Refuses each (x ∷ xs) k =
    let step : (r : Option R) → Refuses x r → ⊥ = elim [
      | None ↦ λ p. some_first Refuses each xs (λ q h. k q (inl (p, h)))
      | Some a ↦ λ p. k (Some a) (inr (a, p, refl))
    ] in each x step

some_of : {X : Type 0} (a b : X) → Some a ≡ Some b → a ≡ b
some_of a b e = cc e

module _ {K C : Type 0} (ReadsAs : Written K → C → Type 0) (IsPast : Written K → ℕ → Type 0) (laws : PieceLaws ReadsAs IsPast) where
  one_syntax : (piece : Written K) (r q : Option ℕ) → IsNoConstruct ReadsAs piece r → IsNoConstruct ReadsAs piece q → r ≡ q
  one_syntax piece None None x y = refl
  one_syntax piece None (Some b) x y = absurd (y.0 x)
  one_syntax piece (Some a) None x y = absurd (x.0 y)
  one_syntax piece (Some a) (Some b) x y = ap Some (x.1 ∙ sym y.1)

  one_numeral : (piece : Written K) (r q : Option ℕ) → IsPastNumeral IsPast piece r → IsPastNumeral IsPast piece q → r ≡ q
  one_numeral piece None None x y = refl
  one_numeral piece None (Some b) x y = absurd (x b y)
  one_numeral piece (Some a) None x y = absurd (y a x)
  one_numeral piece (Some a) (Some b) x y = ap Some (laws.past_one piece a b x y)

  pub one_groups : (groups : List (List (Written K))) (a b : List (List C)) → ReadsGroups ReadsAs groups a → ReadsGroups ReadsAs groups b → a ≡ b
  one_groups groups a b p q = one_each (AreEach ReadsAs) (one_each ReadsAs laws.reads_one) groups a b p q

  syntax_one : (groups : List (List (Written K))) (a b : Option ℕ) → FirstSyntax ReadsAs groups a → FirstSyntax ReadsAs groups b → a ≡ b
  syntax_one groups a b p q = one_first (IsFirst (IsNoConstruct ReadsAs)) (one_first (IsNoConstruct ReadsAs) one_syntax) groups a b p q

  pub numeral_one : (groups : List (List (Written K))) (a b : Option ℕ) → FirstNumeral IsPast groups a → FirstNumeral IsPast groups b → a ≡ b
  numeral_one groups a b p q = one_first (IsFirst (IsPastNumeral IsPast)) (one_first (IsPastNumeral IsPast) one_numeral) groups a b p q

  -- where the groups are read, each piece is a construct
  pub read_none : (groups : List (List (Written K))) (all : List (List C)) → ReadsGroups ReadsAs groups all → FirstSyntax ReadsAs groups None
  read_none groups all p = none_each (AreEach ReadsAs) (IsFirst (IsNoConstruct ReadsAs)) (none_each ReadsAs (IsNoConstruct ReadsAs) (λ piece c r. (c, r))) groups all p

  -- pieces each of which is a construct are read
  group_read : (pieces : List (Written K)) → IsFirst (IsNoConstruct ReadsAs) pieces None → (group : List C) × AreEach ReadsAs pieces group
  group_read [] h = ([], tt)
  group_read (x ∷ xs) (inl h) = let r = group_read xs h.1 in (h.0.0 ∷ r.0, (h.0.1, r.1))
  group_read (x ∷ xs) (inr h) = absurd (cc (h.2))

  pub groups_read : (groups : List (List (Written K))) → FirstSyntax ReadsAs groups None → (all : List (List C)) × ReadsGroups ReadsAs groups all
  groups_read [] h = ([], tt)
  groups_read (x ∷ xs) (inl h) = let g = group_read x h.0 in let r = groups_read xs h.1 in (g.0 ∷ r.0, (g.1, r.1))
  groups_read (x ∷ xs) (inr h) = absurd (cc (h.2))

  module _ (outcome : C → Outcome) where
    one_made : (piece : Written K) (a b : Outcome) → Makes ReadsAs outcome piece a → Makes ReadsAs outcome piece b → a ≡ b
    one_made piece a b x y = sym x.2 ∙ ap outcome (laws.reads_one piece x.0 y.0 x.1 y.1) ∙ y.2

    one_endless : (piece : Written K) (r q : Option (EndKind × ℕ)) → IsEndless ReadsAs outcome piece r → IsEndless ReadsAs outcome piece q → r ≡ q
    one_endless piece None None x y = refl
    one_endless piece None (Some (kind, at)) x y = absurd (x kind y.0)
    one_endless piece (Some (kind, at)) None x y = absurd (y kind x.0)
    one_endless piece (Some (kind, at)) (Some (kind', at')) x y =
        let e = one_made piece (made_of.NoEnd kind) (made_of.NoEnd kind') x.0 y.0 in
        let same : kind ≡ kind' = cc e in
        let places : at ≡ at' = x.1 ∙ sym y.1 in
        λ i. Some (same i, places i)

    one_height : (piece : Written K) (r q : Option ℕ) → IsTooHigh ReadsAs outcome piece r → IsTooHigh ReadsAs outcome piece q → r ≡ q
    one_height piece None None x y = refl
    one_height piece None (Some b) x y = absurd (x y.0)
    one_height piece (Some a) None x y = absurd (y x.0)
    one_height piece (Some a) (Some b) x y = ap Some (x.1 ∙ sym y.1)

    pub endless_one : (groups : List (List (Written K))) (a b : Option (EndKind × ℕ)) → FirstEndless ReadsAs outcome groups a → FirstEndless ReadsAs outcome groups b → a ≡ b
    endless_one groups a b p q = one_first (IsFirst (IsEndless ReadsAs outcome)) (one_first (IsEndless ReadsAs outcome) one_endless) groups a b p q

    pub height_one : (groups : List (List (Written K))) (a b : Option ℕ) → FirstTooHigh ReadsAs outcome groups a → FirstTooHigh ReadsAs outcome groups b → a ≡ b
    height_one groups a b p q = one_first (IsFirst (IsTooHigh ReadsAs outcome)) (one_first (IsTooHigh ReadsAs outcome) one_height) groups a b p q

    -- ---- one refusal

    -- the two causes of `Numeral`
    abbrev PastOrHigh : List (List (Written K)) → ℕ → Type 0
    PastOrHigh groups at = FirstNumeral IsPast groups (Some at) ⊎ (FirstNumeral IsPast groups None × FirstEndless ReadsAs outcome groups None × FirstTooHigh ReadsAs outcome groups (Some at))

    one_past_or_high : (groups : List (List (Written K))) (a b : ℕ) → PastOrHigh groups a → PastOrHigh groups b → a ≡ b
    one_past_or_high groups a b (inl x) (inl y) = some_of a b (numeral_one groups (Some a) (Some b) x y)
    one_past_or_high groups a b (inl x) (inr y) = let e = numeral_one groups (Some a) None x y.0 in absurd (cc e)
    one_past_or_high groups a b (inr x) (inl y) = let e = numeral_one groups None (Some b) x.0 y in absurd (cc e)
    one_past_or_high groups a b (inr x) (inr y) = some_of a b (height_one groups (Some a) (Some b) x.2 y.2)

    not_past_and_endless : (groups : List (List (Written K))) (a : ℕ) (kind : EndKind) (b : ℕ) → PastOrHigh groups a → FirstNumeral IsPast groups None → FirstEndless ReadsAs outcome groups (Some (kind, b)) → ⊥
    not_past_and_endless groups a kind b (inl x) within ends = let e = numeral_one groups (Some a) None x within in cc e
    not_past_and_endless groups a kind b (inr x) within ends = let e = endless_one groups None (Some (kind, b)) x.1 ends in cc e

    not_syntax : (groups : List (List (Written K))) (a : ℕ) → FirstSyntax ReadsAs groups (Some a) → ¬ (FirstSyntax ReadsAs groups None)
    not_syntax groups a p q = let e = syntax_one groups (Some a) None p q in cc e

    same_fault : (kind kind' : EndKind) (a b : ℕ) → ◌≡◌ {A = Option (EndKind × ℕ)} (Some (kind, a)) (Some (kind', b)) → NoEndpoint kind a ≡ NoEndpoint kind' b
    same_fault kind kind' a b e = let p : ◌≡◌ {A = EndKind × ℕ} (kind, a) (kind', b) = some_of {X = EndKind × ℕ} (kind, a) (kind', b) e in λ i. NoEndpoint (p i).0 (p i).1

    refused_one : (groups : List (List (Written K))) (a b : RangeFault) → RefusesGroups ReadsAs IsPast outcome groups a → RefusesGroups ReadsAs IsPast outcome groups b → a ≡ b
    refused_one groups (Syntax a) (Syntax b) p q = ap Syntax (some_of a b (syntax_one groups (Some a) (Some b) p q))
    refused_one groups (Syntax a) (Numeral b) p q = absurd (not_syntax groups a p q.0)
    refused_one groups (Syntax a) (NoEndpoint kind b) p q = absurd (not_syntax groups a p q.0)
    refused_one groups (Syntax a) NoMemory p q = absurd q
    refused_one groups (Numeral a) (Syntax b) p q = absurd (not_syntax groups b q p.0)
    refused_one groups (Numeral a) (Numeral b) p q = ap Numeral (one_past_or_high groups a b p.1 q.1)
    refused_one groups (Numeral a) (NoEndpoint kind b) p q = absurd (not_past_and_endless groups a kind b p.1 q.1 q.2)
    refused_one groups (Numeral a) NoMemory p q = absurd q
    refused_one groups (NoEndpoint kind a) (Syntax b) p q = absurd (not_syntax groups b q p.0)
    refused_one groups (NoEndpoint kind a) (Numeral b) p q = absurd (not_past_and_endless groups b kind a q.1 p.1 p.2)
    refused_one groups (NoEndpoint kind a) (NoEndpoint kind' b) p q = same_fault kind kind' a b (endless_one groups (Some (kind, a)) (Some (kind', b)) p.2 q.2)
    refused_one groups (NoEndpoint kind a) NoMemory p q = absurd q
    refused_one groups NoMemory b p q = absurd p

    -- what makes bounds is not refused
    pub not_refused : (groups : List (List (Written K))) (all : List (List C)) (fault : RangeFault) → ReadsGroups ReadsAs groups all → FirstNumeral IsPast groups None → FirstEndless ReadsAs outcome groups None → FirstTooHigh ReadsAs outcome groups None → ¬ (RefusesGroups ReadsAs IsPast outcome groups fault)
    not_refused groups all (Syntax at) each within ended raised p = not_syntax groups at p (read_none groups all each)
    not_refused groups all (Numeral at) each within ended raised p = elim (p.1) [
      | inl x ↦ let e = numeral_one groups None (Some at) within x in cc e
      | inr x ↦ let e = height_one groups None (Some at) raised x.2 in cc e
    ]
    not_refused groups all (NoEndpoint kind at) each within ended raised p = let e = endless_one groups None (Some (kind, at)) ended p.2 in cc e
    not_refused groups all NoMemory each within ended raised p = p

    -- ---- and it is absurd that there is no answer

    some_syntax : (piece : Written K) → ((r : Option ℕ) → ¬ (IsNoConstruct ReadsAs piece r)) → ⊥
    some_syntax piece k = k (Some piece.at) (λ is. k None is, refl)

    some_numeral : (piece : Written K) → ((r : Option ℕ) → ¬ (IsPastNumeral IsPast piece r)) → ⊥
    some_numeral piece k = k None (λ at p. k (Some at) p)

    some_endless : (piece : Written K) → ((r : Option (EndKind × ℕ)) → ¬ (IsEndless ReadsAs outcome piece r)) → ⊥
    some_endless piece k = k None (λ kind p. k (Some (kind, piece.at)) (p, refl))

    some_height : (piece : Written K) → ((r : Option ℕ) → ¬ (IsTooHigh ReadsAs outcome piece r)) → ⊥
    some_height piece k = k None (λ p. k (Some piece.at) (p, refl))

    -- by the first refusals of each kind, one of the two answers
    decided : (groups : List (List (Written K))) (s n : Option ℕ) (e : Option (EndKind × ℕ)) (h : Option ℕ)
        → FirstSyntax ReadsAs groups s → FirstNumeral IsPast groups n → FirstEndless ReadsAs outcome groups e → FirstTooHigh ReadsAs outcome groups h
        → ((all : List (List C)) → ReadsGroups ReadsAs groups all → FirstNumeral IsPast groups None → FirstEndless ReadsAs outcome groups None → FirstTooHigh ReadsAs outcome groups None → ⊥)
        → ((fault : RangeFault) → ¬ (RefusesGroups ReadsAs IsPast outcome groups fault)) → ⊥
    decided groups (Some at) n e h first past ended raised makes refuses = refuses (Syntax at) first
    decided groups None (Some at) e h first past ended raised makes refuses = refuses (Numeral at) (first, inl past)
    decided groups None None (Some (kind, at)) h first past ended raised makes refuses = refuses (NoEndpoint kind at) (first, past, ended)
    decided groups None None None (Some at) first past ended raised makes refuses = refuses (Numeral at) (first, inr (past, ended, raised))
    decided groups None None None None first past ended raised makes refuses = let r = groups_read groups first in makes r.0 r.1 past ended raised

    pub some_answer : (groups : List (List (Written K)))
        → ((all : List (List C)) → ReadsGroups ReadsAs groups all → FirstNumeral IsPast groups None → FirstEndless ReadsAs outcome groups None → FirstTooHigh ReadsAs outcome groups None → ⊥)
        → ((fault : RangeFault) → ¬ (RefusesGroups ReadsAs IsPast outcome groups fault)) → ⊥
    some_answer groups makes refuses =
        some_first (IsFirst (IsNoConstruct ReadsAs)) (some_first (IsNoConstruct ReadsAs) some_syntax) groups (λ s hs.
        some_first (IsFirst (IsPastNumeral IsPast)) (some_first (IsPastNumeral IsPast) some_numeral) groups (λ n hn.
        some_first (IsFirst (IsEndless ReadsAs outcome)) (some_first (IsEndless ReadsAs outcome) some_endless) groups (λ e he.
        some_first (IsFirst (IsTooHigh ReadsAs outcome)) (some_first (IsTooHigh ReadsAs outcome) some_height) groups (λ h hh.
        decided groups s n e h hs hn he hh makes refuses))))

  -- ---- texts

  module _ (IsCut : List ℕ → List (List (Written K)) → Type 0) (cuts : CutLaws IsCut) where
    pub reads_one : (text : List ℕ) (a b : List (List C)) → Reads IsCut ReadsAs text a → Reads IsCut ReadsAs text b → a ≡ b
    reads_one text a b p q =
        let same = cuts.cut_one text p.groups q.groups p.cut q.cut in
        one_groups q.groups a b (subst (λ (groups : List (List (Written K))). ReadsGroups ReadsAs groups a) same p.each) q.each

    pub refuses_one : (outcome : C → Outcome) (text : List ℕ) (a b : RangeFault) → RefusesText IsCut ReadsAs IsPast outcome text a → RefusesText IsCut ReadsAs IsPast outcome text b → a ≡ b
    refuses_one outcome text a b p q =
        let same = cuts.cut_one text p.groups q.groups p.cut q.cut in
        refused_one outcome q.groups a b (subst (λ (groups : List (List (Written K))). RefusesGroups ReadsAs IsPast outcome groups a) same p.refused) q.refused
