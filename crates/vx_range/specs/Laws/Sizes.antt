-- Bounds have no more cuts than their constructs may have together; so where each has two at most, they have at most twice as
-- many cuts as there are constructs.
use Rattle.std.proofs.Common.{◌≡◌, ◌≤◌, ◌+◌, ◌*◌, ◌++◌, ℕ, List, [], ◌∷◌, length, refl, sym, ap, ◌∙◌, subst, arith, length-append, append-nil}
use Rattle.std.specs.Prelude.{sum_by}
use Rattle.std.proofs.lemmas.List.Sums.{sum_by-cons, sum_by-append}
use Rattle.vx_spec.specs.Each.{joined}
use Rattle.vx_scheme.specs.declared.span.Span.{Span}
use Rattle.vx_scheme.specs.Cuts.{cuts_of}
use Rattle.vx_range.specs.declared.making.Outcome.{Outcome}
use Rattle.vx_range.specs.Pieces.{Written}
use Rattle.vx_range.specs.Reading.{Reads}
use Rattle.vx_range.specs.Making.{mark_behind, marks_behind, made_each, alternatives_of, terms_from, terms_of}
use Rattle.vx_range.specs.Ranges.{MakesBounds}
use Rattle.vx_range.specs.Sizes.{cut_count, HasConstructs, HasTwoCuts}
use Rattle.vx_range.specs.Laws.Joins.{cuts_append, same_spans}

pub cuts_length : {V : Type 0} (a b : List (Span V)) → length (cuts_of (a ++ b)) ≡ length (cuts_of a) + length (cuts_of b)
cuts_length a b = ap length (cuts_append a b) ∙ length-append (cuts_of a) (cuts_of b)

module _ {V C : Type 0} (spans : ℕ → C → List (Span V)) (most : C → ℕ) (each : (mark : ℕ) (construct : C) → length (cuts_of (spans mark construct)) ≤ most construct) where
  group_most : (mark : ℕ) (group : List C) → length (cuts_of (joined (made_each spans mark group))) ≤ sum_by most group
  group_most mark [] = omega arith
  group_most mark (c ∷ group) =
      let here = each mark c in
      let more = group_most (mark_behind spans mark c) group in
      let both = cuts_length (spans mark c) (joined (made_each spans (mark_behind spans mark c) group)) in
      let sums = sum_by-cons most c group in
      omega (arith, here, more, both, sums)

  terms_most : (mark : ℕ) (all : List (List C)) → length (cuts_of (joined (terms_from spans mark all))) ≤ sum_by most (joined all)
  terms_most mark [] = omega arith
  terms_most mark (group ∷ all) =
      let here = group_most mark group in
      let more = terms_most (marks_behind spans mark group) all in
      let both = cuts_length (joined (made_each spans mark group)) (joined (terms_from spans (marks_behind spans mark group) all)) in
      let sums = sum_by-append most group (joined all) in
      omega (arith, here, more, both, sums)

  -- bounds have no more cuts than their constructs may have together
  pub terms_of_most : (all : List (List C)) → cut_count (terms_of spans all) ≤ sum_by most (joined all)
  terms_of_most all = subst (λ terms. length (cuts_of (joined terms)) ≤ sum_by most (joined all)) (sym (append-nil (terms_from spans 0 all))) (terms_most 0 all)

  pub alternatives_of_most : (all : List (List C)) → cut_count (alternatives_of spans all) ≤ sum_by most (joined all)
  alternatives_of_most all = subst (λ made. length (cuts_of made) ≤ sum_by most (joined all)) (sym (same_spans spans 0 all)) (terms_most 0 all)

twice : {C : Type 0} (items : List C) → sum_by (λ item. 2) items ≡ 2 * length items
twice [] = refl
twice (item ∷ items) = let more = twice items in let sums = sum_by-cons (λ item. 2) item items in omega (arith, more, sums)

module _ {V C : Type 0} (spans : ℕ → C → List (Span V)) (two : HasTwoCuts spans) where
  -- at most twice as many cuts as constructs
  pub terms_of_short : (all : List (List C)) → cut_count (terms_of spans all) ≤ 2 * length (joined all)
  terms_of_short all = let most = terms_of_most spans (λ construct. 2) two all in let sums = twice (joined all) in omega (arith, most, sums)

  pub alternatives_of_short : (all : List (List C)) → cut_count (alternatives_of spans all) ≤ 2 * length (joined all)
  alternatives_of_short all = let most = alternatives_of_most spans (λ construct. 2) two all in let sums = twice (joined all) in omega (arith, most, sums)

  module _ {K : Type 0} (IsCut : List ℕ → List (List (Written K)) → Type 0) (ReadsAs : Written K → C → Type 0) (IsPast : Written K → ℕ → Type 0) (outcome : C → Outcome)
      (text : List ℕ) (bounds : List (List (List (Span V)))) where
    -- the bounds of a text, by its reading
    short_by : (bounds_of : List (List C) → List (List (List (Span V)))) → ((all : List (List C)) → cut_count (bounds_of all) ≤ 2 * length (joined all))
        → MakesBounds IsCut ReadsAs IsPast outcome bounds_of text bounds → (n : ℕ) × HasConstructs IsCut ReadsAs text n × (cut_count bounds ≤ 2 * n)
    short_by bounds_of short m = (
      length (joined m.all),
      (m.all, record { groups = m.groups; cut = m.cut; each = m.each }, refl),
      subst (λ b. cut_count b ≤ 2 * length (joined m.all)) (sym m.are) (short m.all),
    )

    pub terms_are_short : MakesBounds IsCut ReadsAs IsPast outcome (terms_of spans) text bounds → (n : ℕ) × HasConstructs IsCut ReadsAs text n × (cut_count bounds ≤ 2 * n)
    terms_are_short m = short_by (terms_of spans) terms_of_short m

    pub alternatives_are_short : MakesBounds IsCut ReadsAs IsPast outcome (alternatives_of spans) text bounds → (n : ℕ) × HasConstructs IsCut ReadsAs text n × (cut_count bounds ≤ 2 * n)
    alternatives_are_short m = short_by (alternatives_of spans) alternatives_of_short m

-- a text that has one reading has one number of constructs
pub one_count : {K C : Type 0} (IsCut : List ℕ → List (List (Written K)) → Type 0) (ReadsAs : Written K → C → Type 0) (text : List ℕ)
    → ((all others : List (List C)) → Reads IsCut ReadsAs text all → Reads IsCut ReadsAs text others → all ≡ others)
    → (a b : ℕ) → HasConstructs IsCut ReadsAs text a → HasConstructs IsCut ReadsAs text b → a ≡ b
one_count {C = C} IsCut ReadsAs text one a b p q = p.2 ∙ ap (λ (all : List (List C)). length (joined all)) (one p.0 q.0 p.1 q.1) ∙ sym q.2
