-- A translation has at most as many constraints as the range text makes cuts.
use Rattle.std.proofs.Common.{◌≡◌, ◌≤◌, ◌++◌, ℕ, List, [], ◌∷◌, length, suc, refl, sym, ap, ◌∙◌, subst, le_trans}
use Rattle.std.specs.Cmp.{IsTotalOrder}
use Rattle.std.specs.declared.cmp.Ordering.{Ordering}
use Rattle.vx_spec.specs.Each.{joined}
use Rattle.vx_scheme.specs.declared.domain.Domain.{Domain}
use Rattle.vx_scheme.specs.declared.native.Native.{Ghosts as Language}
use Rattle.vx_scheme.specs.declared.scheme.Scheme.{Ghosts as Scheme}
use Rattle.vx_scheme.specs.declared.span.Span.{Span}
use Rattle.vx_scheme.specs.Cuts.{cuts_of, starts_of}
use Rattle.vx_interval.specs.Joined.{IsJoined, made_cuts, terms_cuts}
use Rattle.vx_interval.proofs.ShortLaws.{joined_is_short}
use Rattle.vx_range.specs.Sizes.{cut_count}
use Rattle.vx_range.specs.Laws.Joins.{cuts_append, joined_append}
use Rattle.vx_simplify.specs.Listed.{list_of}
use Rattle.vx_simplify.proofs.ListedOrder.{listed_is_short}
use Rattle.vx_vers.specs.declared.constraints.Constraint.{Constraint}
use Rattle.vx_vers.specs.Again.{IsSameList, SpellsSame}
use Rattle.vx_translate.specs.Sizes.{HasNoMore}

-- lists that are the same have one length
same_length : {V : Type 0} (order : V → V → Ordering) (a b : List (Constraint V)) → IsSameList order a b → length a ≡ length b
same_length order [] [] s = refl
same_length order [] (d ∷ b) s = absurd s
same_length order (c ∷ a) [] s = absurd s
same_length order (c ∷ a) (d ∷ b) s = ap suc (same_length order a b s.2)

-- the made cuts are the cuts of all spans of the bounds
terms_are : {V : Type 0} (terms : List (List (Span V))) → terms_cuts terms ≡ cuts_of (joined terms)
terms_are [] = refl
terms_are (term ∷ terms) = ap (λ cuts. cuts_of term ++ cuts) (terms_are terms) ∙ sym (cuts_append term (joined terms))

bounds_are : {V : Type 0} (bounds : List (List (List (Span V)))) → made_cuts bounds ≡ cuts_of (joined (joined bounds))
bounds_are [] = refl
bounds_are (terms ∷ bounds) =
    (λ i. terms_are terms i ++ bounds_are bounds i) ∙ sym (cuts_append (joined terms) (joined (joined bounds))) ∙ ap cuts_of (sym (joined_append terms (joined bounds)))

module _ {S V : Type 0} (scheme : Scheme S V) (language : Language S V) (total : IsTotalOrder scheme.order) where
  few : (bounds : List (List (List (Span V)))) (spans : List (Span V)) → IsJoined scheme.order bounds spans → length (list_of scheme.order spans) ≤ cut_count bounds
  few bounds spans is =
      le_trans (listed_is_short scheme.order (starts_of spans) (cuts_of spans))
      (subst (λ n. length (cuts_of spans) ≤ n) (ap length (bounds_are bounds)) (joined_is_short total bounds spans is))

  pub has_no_more : (domain : Domain) (text out : List ℕ) (bounds : List (List (List (Span V)))) (spans : List (Span V))
      → language.Makes domain text bounds → IsJoined scheme.order bounds spans → SpellsSame scheme.name scheme.order scheme.Spells scheme.IsWithin out (list_of scheme.order spans)
      → HasNoMore scheme language domain text out
  has_no_more domain text out bounds spans made is spells = record {
    bounds = bounds;
    made = made;
    list = spells.again;
    read = record { spelled = spells.spelled; within = spells.within };
    short = subst (λ n. n ≤ cut_count bounds) (sym (same_length scheme.order spells.again (list_of scheme.order spans) spells.same)) (few bounds spans is);
  }
