-- The laws of a range language, of any language whose pieces, cuts and constructs have theirs.
use Rattle.std.proofs.Common.{◌≡◌, ◌≢◌, ℕ, Bool, List, sym, ap, ◌∙◌, subst, None}
use Rattle.std.specs.declared.cmp.Ordering.{Ordering}
use Rattle.vx_scheme.specs.declared.domain.Domain.{Domain}
use Rattle.vx_scheme.specs.declared.range_fault.RangeFault.{RangeFault}
use Rattle.vx_scheme.specs.declared.range_fault.RangeFault.TheVariants as fault_of
use Rattle.vx_scheme.specs.declared.span.Span.{Span}
use Rattle.vx_scheme.specs.Cuts.{in_spans, in_bounds}
use Rattle.vx_scheme.specs.Native.{RangeLaws}
use Rattle.vx_range.specs.declared.making.Outcome.{Outcome}
use Rattle.vx_range.specs.declared.making.Outcome.TheVariants as made_of
use Rattle.vx_range.specs.Pieces.{Written}
use Rattle.vx_range.specs.Reading.{PieceLaws, CutLaws, ReadsGroups, Reads}
use Rattle.vx_range.specs.Making.{FirstEndless, FirstTooHigh, alternatives_of, terms_of, alternatives_hold, terms_hold}
use Rattle.vx_range.specs.Ranges.{IsRange, In, MakesBounds, RefusesGroups, RefusesText}
use Rattle.vx_range.specs.Laws.OneRefusal.{reads_one, refuses_one, not_refused, some_answer}
use Rattle.vx_range.specs.Laws.Constructs.{alternatives_say, terms_say}

module _ {K C V : Type 0} (order : V → V → Ordering) (IsVersion : V → Type 0) (InDomain : Domain → V → Type 0) (Offers : Domain → Type 0)
    (IsCut : List ℕ → List (List (Written K)) → Type 0) (ReadsAs : Written K → C → Type 0) (IsPast : Written K → ℕ → Type 0)
    (cuts : CutLaws IsCut) (laws : PieceLaws ReadsAs IsPast) (outcome : Domain → C → Outcome) where
  module _ (bounds_of : Domain → List (List C) → List (List (List (Span V)))) where
    abbrev Made : Domain → List ℕ → List (List (List (Span V))) → Type 0
    Made domain = MakesBounds IsCut ReadsAs IsPast (outcome domain) (bounds_of domain)

    abbrev Refused : Domain → List ℕ → RangeFault → Type 0
    Refused domain = RefusesText IsCut ReadsAs IsPast (outcome domain)

    reading : (domain : Domain) (text : List ℕ) (bounds : List (List (List (Span V)))) (m : Made domain text bounds) → Reads IsCut ReadsAs text m.all
    reading domain text bounds m = record { groups = m.groups; cut = m.cut; each = m.each }

    makes_one : (domain : Domain) (text : List ℕ) (a b : List (List (List (Span V)))) → Made domain text a → Made domain text b → a ≡ b
    makes_one domain text a b p q = p.are ∙ ap (bounds_of domain) (reads_one ReadsAs IsPast laws IsCut cuts text p.all q.all (reading domain text a p) (reading domain text b q)) ∙ sym q.are

    apart : (domain : Domain) (text : List ℕ) (bounds : List (List (List (Span V)))) (fault : RangeFault) → Made domain text bounds → ¬ (Refused domain text fault)
    apart domain text bounds fault m r =
        let same = cuts.cut_one text r.groups m.groups r.cut m.cut in
        not_refused ReadsAs IsPast laws (outcome domain) m.groups m.all fault m.each m.within m.ended m.raised
        (subst (λ (groups : List (List (Written K))). RefusesGroups ReadsAs IsPast (outcome domain) groups fault) same r.refused)

    -- want of memory is no refusal of a text
    no_memory : (groups : List (List (Written K))) (domain : Domain) (fault : RangeFault) → RefusesGroups ReadsAs IsPast (outcome domain) groups fault → fault ≢ fault_of.NoMemory
    no_memory groups domain (fault_of.Syntax at) _ e = cc
    no_memory groups domain (fault_of.Numeral at) _ e = cc
    no_memory groups domain (fault_of.NoEndpoint kind at) _ e = cc
    no_memory groups domain fault_of.NoMemory refused _ = refused

    answered : (domain : Domain) (text : List ℕ) → ((bounds : List (List (List (Span V)))) → ¬ (Made domain text bounds)) → ((fault : RangeFault) → fault ≢ fault_of.NoMemory → ¬ (Refused domain text fault)) → ⊥
    answered domain text makes refuses =
        cuts.cut_some text (λ groups cut.
        some_answer ReadsAs IsPast laws (outcome domain) groups
        (λ all each within ended raised. makes (bounds_of domain all) (record { groups = groups; cut = cut; all = all; each = each; within = within; ended = ended; raised = raised; are = λ i. bounds_of domain all }))
        (λ fault refused. refuses fault (no_memory groups domain fault refused) (record { groups = groups; cut = cut; refused = refused })))

    -- over any shape of bounds
    ranges_by : (holds_all : List (List C) → V → Bool)
        → ((domain : Domain) (groups : List (List (Written K))) (all : List (List C)) (v : V) → IsVersion v → InDomain domain v → ReadsGroups ReadsAs groups all
        → FirstEndless ReadsAs (outcome domain) groups None → FirstTooHigh ReadsAs (outcome domain) groups None → in_bounds order (bounds_of domain all) v ≡ holds_all all v)
        → RangeLaws order IsVersion InDomain Offers (IsRange IsCut ReadsAs) (In IsCut ReadsAs holds_all) Made Refused
    ranges_by holds_all say = record {
      makes_range = λ domain text bounds m. (m.all, reading domain text bounds m);
      makes_one = makes_one;
      apart = apart;
      refuses_one = λ domain text. refuses_one ReadsAs IsPast laws IsCut cuts (outcome domain) text;
      answered = λ domain text offered. answered domain text;
      forward = λ domain text bounds m v is inside.
          let said : in_bounds order bounds v ≡ holds_all m.all v = ap (λ (b : List (List (List (Span V)))). in_bounds order b v) m.are ∙ say domain m.groups m.all v is inside m.each m.ended m.raised in (
            λ in'. said ∙ ap (λ (all : List (List C)). holds_all all v) (reads_one ReadsAs IsPast laws IsCut cuts text m.all in'.0 (reading domain text bounds m) in'.1) ∙ in'.2,
            λ held. (m.all, reading domain text bounds m, sym said ∙ held),
          );
    }

  module _ (spans : Domain → ℕ → C → List (Span V)) (holds : C → V → Bool)
      (agrees : (domain : Domain) (mark : ℕ) (construct : C) (v : V) → IsVersion v → InDomain domain v → outcome domain construct ≡ made_of.Spans → in_spans order (spans domain mark construct) v ≡ holds construct v) where
    -- a language whose groups are alternatives
    pub alternative_ranges : RangeLaws order IsVersion InDomain Offers (IsRange IsCut ReadsAs) (In IsCut ReadsAs (alternatives_hold holds))
        (λ domain. MakesBounds IsCut ReadsAs IsPast (outcome domain) (alternatives_of (spans domain))) (λ domain. RefusesText IsCut ReadsAs IsPast (outcome domain))
    alternative_ranges = ranges_by (λ domain. alternatives_of (spans domain)) (alternatives_hold holds)
        (λ domain groups all v is inside each ended raised. alternatives_say order ReadsAs (spans domain) (outcome domain) holds v (λ mark construct made. agrees domain mark construct v is inside made) 0 groups all each ended raised)

    -- a language whose groups are terms
    pub term_ranges : RangeLaws order IsVersion InDomain Offers (IsRange IsCut ReadsAs) (In IsCut ReadsAs (terms_hold holds))
        (λ domain. MakesBounds IsCut ReadsAs IsPast (outcome domain) (terms_of (spans domain))) (λ domain. RefusesText IsCut ReadsAs IsPast (outcome domain))
    term_ranges = ranges_by (λ domain. terms_of (spans domain)) (terms_hold holds)
        (λ domain groups all v is inside each ended raised. terms_say order ReadsAs (spans domain) (outcome domain) holds v (λ mark construct made. agrees domain mark construct v is inside made) 0 groups all each ended raised)
