-- Where the marks of each construct's spans run on, so do those of bounds.
use Rattle.std.proofs.Common.{◌+◌, ◌++◌, ℕ, List, [], ◌∷◌, length, sym, ap, ◌∙◌, subst, arith, append_assoc, append-nil}
use Rattle.vx_spec.specs.Each.{joined}
use Rattle.vx_scheme.specs.declared.span.Cut.{Cut}
use Rattle.vx_scheme.specs.declared.span.Span.{Span}
use Rattle.vx_scheme.specs.Cuts.{cuts_of}
use Rattle.vx_range.specs.Making.{mark_behind, marks_behind, made_each, alternatives_of, terms_from, terms_of}
use Rattle.vx_range.specs.Running.{RunOn, EachRunsOn, BoundsRunOn}
use Rattle.vx_range.specs.Laws.Joins.{cuts_append, same_spans}

module _ {V : Type 0} where
  run_more : (mark : ℕ) (xs ys : List (Cut V)) → RunOn mark xs → RunOn (mark + length xs) ys → RunOn mark (xs ++ ys)
  run_more mark [] ys p q = subst (λ n. RunOn n ys) (omega arith) q
  run_more mark (x ∷ xs) ys p q = (p.0, run_more (mark + 1) xs ys p.1 (subst (λ n. RunOn n ys) (omega arith) q))

module _ {V C : Type 0} (spans : ℕ → C → List (Span V)) (each : EachRunsOn spans) where
  -- of a group, with the spans behind it
  group_runs : (mark : ℕ) (group : List C) (behind : List (Span V)) → RunOn (marks_behind spans mark group) (cuts_of behind)
      → RunOn mark (cuts_of (joined (made_each spans mark group) ++ behind))
  group_runs mark [] behind rest = rest
  group_runs mark (c ∷ group) behind rest =
      let more = made_each spans (mark_behind spans mark c) group in
      subst (λ cuts. RunOn mark cuts) (sym (ap cuts_of (append_assoc (spans mark c) (joined more) behind) ∙ cuts_append (spans mark c) (joined more ++ behind)))
      (run_more mark (cuts_of (spans mark c)) (cuts_of (joined more ++ behind)) (each mark c) (group_runs (mark_behind spans mark c) group behind rest))

  terms_run : (mark : ℕ) (all : List (List C)) → RunOn mark (cuts_of (joined (terms_from spans mark all)))
  terms_run mark [] = tt
  terms_run mark (group ∷ all) = group_runs mark group (joined (terms_from spans (marks_behind spans mark group) all)) (terms_run (marks_behind spans mark group) all)

  pub alternatives_run_on : (all : List (List C)) → BoundsRunOn (alternatives_of spans all)
  alternatives_run_on all = subst (λ made. RunOn 0 (cuts_of made)) (sym (same_spans spans 0 all)) (terms_run 0 all)

  pub terms_run_on : (all : List (List C)) → BoundsRunOn (terms_of spans all)
  terms_run_on all = subst (λ terms. RunOn 0 (cuts_of (joined terms))) (sym (append-nil (terms_from spans 0 all))) (terms_run 0 all)
