-- What is made holds what the constructs hold, where each construct's spans hold what it holds.
use Rattle.std.proofs.Common.{◌≡◌, ◌≢◌, ◌&&◌, ◌||◌, ◌++◌, ℕ, Bool, true, false, List, [], ◌∷◌, refl, sym, ap, ◌∙◌, inl, inr, None}
use Rattle.std.specs.List.{list_any, list_all}
use Rattle.std.specs.declared.cmp.Ordering.{Ordering}
use Rattle.std.proofs.Math.Bool.{or-false}
use Rattle.vx_spec.specs.Each.{AreEach, joined}
use Rattle.vx_spec.specs.Firsts.{IsFirst}
use Rattle.vx_scheme.specs.declared.range_fault.EndKind.{EndKind}
use Rattle.vx_scheme.specs.declared.span.Span.{Span}
use Rattle.vx_scheme.specs.Cuts.{cut_below, span_at, in_spans, in_bounds}
use Rattle.vx_range.specs.declared.making.Outcome.{Outcome}
use Rattle.vx_range.specs.declared.making.Outcome.TheVariants as made_of
use Rattle.vx_range.specs.Pieces.{Written}
use Rattle.vx_range.specs.Reading.{ReadsGroups}
use Rattle.vx_range.specs.Making.{mark_behind, marks_behind, made_each, alternatives_from, terms_from, alternatives_hold, terms_hold, IsEndless, IsTooHigh, FirstEndless, FirstTooHigh}

or_parts : (a b c : Bool) → ((a || b) || c) ≡ (a || (b || c))
or_parts false b c = refl
or_parts true b c = refl

any_append : {X : Type 0} (test : X → Bool) (xs ys : List X) → list_any test (xs ++ ys) ≡ (list_any test xs || list_any test ys)
any_append test [] ys = refl
any_append test (x ∷ xs) ys = ap (λ r. test x || r) (any_append test xs ys) ∙ sym (or_parts (test x) (list_any test xs) (list_any test ys))

-- what has an end and can be raised makes spans
makes_spans : (made : Outcome) → ((kind : EndKind) → made ≢ made_of.NoEnd kind) → made ≢ made_of.TooHigh → made ≡ made_of.Spans
makes_spans made_of.Spans ended raised = refl
makes_spans (made_of.NoEnd kind) ended raised = absurd (ended kind refl)
makes_spans made_of.TooHigh ended raised = absurd (raised refl)

module _ {K V C : Type 0} (order : V → V → Ordering) (ReadsAs : Written K → C → Type 0) (spans : ℕ → C → List (Span V)) (outcome : C → Outcome) (holds : C → V → Bool) (v : V)
    (agrees : (mark : ℕ) (construct : C) → outcome construct ≡ made_of.Spans → in_spans order (spans mark construct) v ≡ holds construct v) where
  -- each construct of a group makes spans
  abbrev Ended : List (Written K) → Type 0
  Ended pieces = IsFirst (IsEndless ReadsAs outcome) pieces None

  abbrev Raised : List (Written K) → Type 0
  Raised pieces = IsFirst (IsTooHigh ReadsAs outcome) pieces None

  here : (mark : ℕ) (piece : Written K) (construct : C) → ReadsAs piece construct → IsEndless ReadsAs outcome piece None → IsTooHigh ReadsAs outcome piece None → in_spans order (spans mark construct) v ≡ holds construct v
  here mark piece construct reads ended raised = agrees mark construct (makes_spans (outcome construct) (λ kind e. ended kind (construct, reads, e)) (λ e. raised (construct, reads, e)))

  each_says : (mark : ℕ) (pieces : List (Written K)) (group : List C) → AreEach ReadsAs pieces group → Ended pieces → Raised pieces → list_all (λ s. in_spans order s v) (made_each spans mark group) ≡ list_all (λ construct. holds construct v) group
  each_says mark [] [] reads ended raised = refl
  each_says mark [] (c ∷ group) reads ended raised = absurd reads
  each_says mark (piece ∷ pieces) [] reads ended raised = absurd reads
  each_says mark (piece ∷ pieces) (c ∷ group) reads (inr ended) raised = absurd (cc (ended.2))
  each_says mark (piece ∷ pieces) (c ∷ group) reads (inl ended) (inr raised) = absurd (cc (raised.2))
  each_says mark (piece ∷ pieces) (c ∷ group) reads (inl ended) (inl raised) = λ i. here mark piece c reads.0 ended.0 raised.0 i && each_says (mark_behind spans mark c) pieces group reads.1 ended.1 raised.1 i

  any_says : (mark : ℕ) (pieces : List (Written K)) (group : List C) → AreEach ReadsAs pieces group → Ended pieces → Raised pieces → in_spans order (joined (made_each spans mark group)) v ≡ list_any (λ construct. holds construct v) group
  any_says mark [] [] reads ended raised = refl
  any_says mark [] (c ∷ group) reads ended raised = absurd reads
  any_says mark (piece ∷ pieces) [] reads ended raised = absurd reads
  any_says mark (piece ∷ pieces) (c ∷ group) reads (inr ended) raised = absurd (cc (ended.2))
  any_says mark (piece ∷ pieces) (c ∷ group) reads (inl ended) (inr raised) = absurd (cc (raised.2))
  any_says mark (piece ∷ pieces) (c ∷ group) reads (inl ended) (inl raised) =
      any_append (span_at (λ cut. cut_below order cut v)) (spans mark c) (joined (made_each spans (mark_behind spans mark c) group))
      ∙ (λ i. here mark piece c reads.0 ended.0 raised.0 i || any_says (mark_behind spans mark c) pieces group reads.1 ended.1 raised.1 i)

  pub alternatives_say : (mark : ℕ) (groups : List (List (Written K))) (all : List (List C)) → ReadsGroups ReadsAs groups all → FirstEndless ReadsAs outcome groups None → FirstTooHigh ReadsAs outcome groups None
      → in_bounds order (alternatives_from spans mark all) v ≡ alternatives_hold holds all v
  alternatives_say mark [] [] reads ended raised = refl
  alternatives_say mark [] (group ∷ all) reads ended raised = absurd reads
  alternatives_say mark (pieces ∷ groups) [] reads ended raised = absurd reads
  alternatives_say mark (pieces ∷ groups) (group ∷ all) reads (inr ended) raised = absurd (cc (ended.2))
  alternatives_say mark (pieces ∷ groups) (group ∷ all) reads (inl ended) (inr raised) = absurd (cc (raised.2))
  alternatives_say mark (pieces ∷ groups) (group ∷ all) reads (inl ended) (inl raised) =
      λ i. each_says mark pieces group reads.0 ended.0 raised.0 i || alternatives_say (marks_behind spans mark group) groups all reads.1 ended.1 raised.1 i

  all_say : (mark : ℕ) (groups : List (List (Written K))) (all : List (List C)) → ReadsGroups ReadsAs groups all → FirstEndless ReadsAs outcome groups None → FirstTooHigh ReadsAs outcome groups None
      → list_all (λ s. in_spans order s v) (terms_from spans mark all) ≡ terms_hold holds all v
  all_say mark [] [] reads ended raised = refl
  all_say mark [] (group ∷ all) reads ended raised = absurd reads
  all_say mark (pieces ∷ groups) [] reads ended raised = absurd reads
  all_say mark (pieces ∷ groups) (group ∷ all) reads (inr ended) raised = absurd (cc (ended.2))
  all_say mark (pieces ∷ groups) (group ∷ all) reads (inl ended) (inr raised) = absurd (cc (raised.2))
  all_say mark (pieces ∷ groups) (group ∷ all) reads (inl ended) (inl raised) =
      λ i. any_says mark pieces group reads.0 ended.0 raised.0 i && all_say (marks_behind spans mark group) groups all reads.1 ended.1 raised.1 i

  pub terms_say : (mark : ℕ) (groups : List (List (Written K))) (all : List (List C)) → ReadsGroups ReadsAs groups all → FirstEndless ReadsAs outcome groups None → FirstTooHigh ReadsAs outcome groups None
      → in_bounds order (terms_from spans mark all ∷ []) v ≡ terms_hold holds all v
  terms_say mark groups all reads ended raised = or-false _ ∙ all_say mark groups all reads ended raised
