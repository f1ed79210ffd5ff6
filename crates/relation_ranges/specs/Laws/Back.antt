-- What a language of relations promises of the way back, of any table: which versions spans in order hold, and that a text whose
-- terms hold what the spans hold is a text of theirs.
use Rattle.std.proofs.Common.{◌≡◌, ◌&&◌, ◌||◌, not, ℕ, Bool, true, false, List, ◌∷◌, refl, sym, ap, ◌∙◌, Option}
use Rattle.std.specs.Cmp.{IsTotalOrder}
use Rattle.std.specs.declared.cmp.Ordering.{Ordering}
use Rattle.vx_scheme.specs.declared.span.Cut.{Cut}
use Rattle.vx_scheme.specs.declared.span.Span.{Span}
use Rattle.vx_scheme.specs.Cuts.{cut_below, in_spans, spans_of}
use Rattle.vx_scheme.specs.Native.{PrintsSpans}
use Rattle.vx_scheme.proofs.CutLaws.{cut_below-lower}
use Rattle.vx_range.specs.Making.{terms_hold}
use Rattle.vx_range.specs.Laws.Gaps.{IsRising, after_cut, spans_are, spans_say}
use Rattle.relation_ranges.specs.declared.relations.Relation.{Relation}
use Rattle.relation_ranges.specs.Reading.{Reads}
use Rattle.relation_ranges.specs.Range.{relation_holds, IsRange, In}

module _ {V : Type 0} (order : V → V → Ordering) (laws : IsTotalOrder order) where
  -- the spans between cuts, of which the first is a lower one
  pub lower_first : (v : V) (c d : Cut V) (cuts : List (Cut V)) → IsRising order (c ∷ d ∷ cuts) → in_spans order (spans_of false (c ∷ d ∷ cuts)) v ≡ (cut_below order c v && after_cut order v d cuts)
  lower_first v c d cuts rising =
      ap (λ r. (cut_below order c v && not (cut_below order d v)) || r) (spans_say order laws v cuts)
      ∙ spans_are order laws v (cut_below order c v) d cuts (cut_below-lower order laws c d v rising.0.0) rising.1

  -- or an upper one
  pub upper_first : (v : V) (d : Cut V) (cuts : List (Cut V)) → IsRising order (d ∷ cuts) → in_spans order (spans_of true (d ∷ cuts)) v ≡ after_cut order v d cuts
  upper_first v d cuts rising = ap (λ r. not (cut_below order d v) || r) (spans_say order laws v cuts) ∙ spans_are order laws v true d cuts (λ _. refl) rising

module _ {O V : Type 0} (bar : Option ℕ) (is_sign : ℕ → Bool) (HasSigns : O → List ℕ → Type 0) (Spells : List ℕ → V → Type 0)
    (one_reads : (text : List ℕ) (a b : List (List (Relation O V))) → Reads bar is_sign HasSigns Spells text a → Reads bar is_sign HasSigns Spells text b → a ≡ b) where
  -- a text that reads as terms which hold the same versions of the domain as the spans
  pub terms_print : (order : V → V → Ordering) (IsVersion InDomain : V → Type 0) (holds : O → V → V → Bool) (spans : List (Span V)) (text : List ℕ) (terms : List (List (Relation O V)))
      → Reads bar is_sign HasSigns Spells text terms → ((v : V) → InDomain v → in_spans order spans v ≡ terms_hold (relation_holds holds) terms v)
      → PrintsSpans order IsVersion InDomain (IsRange bar is_sign HasSigns Spells) (In bar is_sign HasSigns Spells holds) spans text
  terms_print order IsVersion InDomain holds spans text terms reads says = record {
    range = (terms, reads);
    members = λ v version within. (
      λ held. says v within ∙ ap (λ (all : List (List (Relation O V))). terms_hold (relation_holds holds) all v) (one_reads text terms held.0 reads held.1) ∙ held.2,
      λ held. (terms, reads, sym (says v within) ∙ held),
    );
  }
