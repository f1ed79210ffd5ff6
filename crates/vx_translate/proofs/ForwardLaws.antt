-- A translation holds the versions of its range text.
use Rattle.std.proofs.Common.{◌≡◌, ◌≢◌, ◌↔◌, ℕ, List, [], true, sym, ◌∙◌}
use Rattle.std.specs.Cmp.{IsTotalOrder}
use Rattle.vx_scheme.specs.declared.scheme.Scheme.{Ghosts as Scheme}
use Rattle.vx_scheme.specs.declared.native.Native.{Ghosts as Language}
use Rattle.vx_scheme.specs.Domains.{InDomain}
use Rattle.vx_scheme.specs.declared.domain.Domain.{Domain}
use Rattle.vx_scheme.specs.declared.span.Span.{Span}
use Rattle.vx_scheme.specs.Cuts.{cut_below, in_spans}
use Rattle.vx_scheme.specs.Native.{RangeLaws}
use Rattle.vx_interval.specs.Joined.{IsJoined}
use Rattle.vx_interval.proofs.SpanLaws.{version_place}
use Rattle.vx_simplify.specs.Listed.{list_of}
use Rattle.vx_simplify.proofs.ListedLaws.{list_means}
use Rattle.vx_vers.specs.Again.{SpellsSame}
use Rattle.vx_vers.proofs.AgainLaws.{means_same}
use Rattle.vx_translate.specs.Forward.{HoldsSame, HoldsNothing, IsEmpty}

module _ {S V : Type 0} (scheme : Scheme S V) (language : Language S V) (total : IsTotalOrder scheme.order)
    (laws : RangeLaws scheme.order scheme.IsVersion (InDomain scheme) language.Offers language.IsRange language.In language.Makes language.Refuses) where
  -- joined spans hold the versions of the domain that are in the text
  joined_say : (domain : Domain) (text : List ℕ) (bounds : List (List (List (Span V)))) (spans : List (Span V)) → language.Makes domain text bounds → IsJoined scheme.order bounds spans
      → (v : V) → scheme.IsVersion v → InDomain scheme domain v → language.In text v ↔ (in_spans scheme.order spans v ≡ true)
  joined_say domain text bounds spans made joined v is within =
      let said = laws.forward domain text bounds made v is within in
      let same = joined.pieces (λ cut. cut_below scheme.order cut v) (version_place total v) in
      (λ inside. same ∙ said.0 inside, λ held. said.1 (sym same ∙ held))

  -- a list that is the same as the list of the joined spans holds them too
  pub holds_same : (domain : Domain) (text out : List ℕ) (bounds : List (List (List (Span V)))) (spans : List (Span V))
      → language.Makes domain text bounds → IsJoined scheme.order bounds spans → spans ≢ [] → SpellsSame scheme.name scheme.order scheme.Spells scheme.IsWithin out (list_of scheme.order spans)
      → HoldsSame scheme language domain text out
  holds_same domain text out bounds spans made joined some spells = record {
    list = spells.again;
    read = record { spelled = spells.spelled; within = spells.within };
    same = λ v is within.
        let said = joined_say domain text bounds spans made joined v is within in
        let means = means_same total v spells.again (list_of scheme.order spans) spells.same ∙ list_means total spans v joined.in_order some in
        (λ inside. means ∙ said.0 inside, λ held. said.1 (sym means ∙ held));
  }

  -- an empty range holds no version of the domain
  pub holds_none : (domain : Domain) (text : List ℕ) → IsEmpty scheme language domain text → HoldsNothing scheme language domain text
  holds_none domain text empty v is within inside = cc ((joined_say domain text empty.bounds [] empty.made empty.joined v is within).0 inside)
