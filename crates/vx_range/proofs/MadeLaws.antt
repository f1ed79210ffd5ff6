-- What one construct, or one group, more makes.
use Rattle.std.proofs.Common.{◌≡◌, ◌++◌, ℕ, List, [], ◌∷◌, refl, sym, ap, ◌∙◌, append_assoc, append-nil}
use Rattle.vx_spec.specs.Each.{joined}
use Rattle.vx_scheme.specs.declared.span.Span.{Span}
use Rattle.vx_range.specs.Making.{mark_behind, marks_behind, made_each, groups_from}
use Rattle.vx_range.specs.Steps.Found.{AppendsSpans, AddsSpans, IsGroupMade, AreGroupsMade}
use Rattle.vx_range.specs.Steps.Marks.{marks_behind_all}

joined_more : {X : Type 0} (xss : List (List X)) (xs : List X) → joined (xss ++ xs ∷ []) ≡ joined xss ++ xs
joined_more [] xs = append-nil xs
joined_more (ys ∷ xss) xs = ap (λ t. ys ++ t) (joined_more xss xs) ∙ sym (append_assoc ys (joined xss) xs)

module _ {V C : Type 0} (spans : ℕ → C → List (Span V)) where
  pub marks_more : (mark : ℕ) (group : List C) (c : C) → marks_behind spans mark (group ++ c ∷ []) ≡ mark_behind spans (marks_behind spans mark group) c
  marks_more mark [] c = refl
  marks_more mark (d ∷ group) c = marks_more (mark_behind spans mark d) group c

  pub each_more : (mark : ℕ) (group : List C) (c : C) → made_each spans mark (group ++ c ∷ []) ≡ made_each spans mark group ++ spans (marks_behind spans mark group) c ∷ []
  each_more mark [] c = refl
  each_more mark (d ∷ group) c = ap (λ t. spans mark d ∷ t) (each_more (mark_behind spans mark d) group c)

  pub all_marks_more : (mark : ℕ) (all : List (List C)) (group : List C) → marks_behind_all spans mark (all ++ group ∷ []) ≡ marks_behind spans (marks_behind_all spans mark all) group
  all_marks_more mark [] group = refl
  all_marks_more mark (g ∷ all) group = all_marks_more (marks_behind spans mark g) all group

  pub groups_more : {G : Type 0} (together : List (List (Span V)) → G) (mark : ℕ) (all : List (List C)) (group : List C)
      → groups_from spans together mark (all ++ group ∷ []) ≡ groups_from spans together mark all ++ together (made_each spans (marks_behind_all spans mark all) group) ∷ []
  groups_more together mark [] group = refl
  groups_more together mark (g ∷ all) group = ap (λ t. together (made_each spans mark g) ∷ t) (groups_more together (marks_behind spans mark g) all group)

  -- ---- one turn of a loop more

  -- the spans of one construct more, in one term
  pub adds_spans : (mark new : ℕ) (before out : List (Span V)) (c : C) → AppendsSpans spans mark new before out c → AddsSpans joined spans mark new before out c
  adds_spans mark new before out c o =
      (λ each is. o.0 ∙ ap (λ (b : List (Span V)). b ++ spans mark c) is ∙ sym (joined_more each (spans mark c)), o.1)

  module _ {G : Type 0} (together : List (List (Span V)) → G) where
    -- a construct more
    pub group_step : (mark mid new : ℕ) (before out : G) (group : List C) (c : C)
        → IsGroupMade together spans mark mid before group → AddsSpans together spans mid new before out c → IsGroupMade together spans mark new out (group ++ c ∷ [])
    group_step mark mid new before out group c m o = (
      o.0 (made_each spans mark group) m.0
          ∙ ap (λ n. together (made_each spans mark group ++ spans n c ∷ [])) m.1
          ∙ ap together (sym (each_more mark group c)),
      o.1 ∙ ap (λ n. mark_behind spans n c) m.1 ∙ sym (marks_more mark group c),
    )

    -- a group more
    pub groups_step : (mark mid new : ℕ) (shapes shapes' : List G) (shape : G) → shapes' ≡ shapes ++ shape ∷ [] → (all : List (List C)) (group : List C)
        → AreGroupsMade together spans mark mid shapes all → IsGroupMade together spans mid new shape group → AreGroupsMade together spans mark new shapes' (all ++ group ∷ [])
    groups_step mark mid new shapes shapes' shape pushed all group m o =
        let made : shape ≡ together (made_each spans (marks_behind_all spans mark all) group) = o.0 ∙ ap (λ n. together (made_each spans n group)) m.1 in (
          pushed ∙ (λ i. m.0 i ++ made i ∷ []) ∙ sym (groups_more together mark all group),
          o.1 ∙ ap (λ n. marks_behind spans n group) m.1 ∙ sym (all_marks_more mark all group),
        )
