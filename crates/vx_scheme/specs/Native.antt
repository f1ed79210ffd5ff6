-- Domains, and what a range language promises of the spans that it makes, of the texts that it prints and of its
-- refusals.
use Rattle.std.specs.Prelude.{◌≡◌, ◌≢◌, ◌↔◌, ℕ, true, List, [], Option, Some, None, Result, Ok, Err}
use Rattle.std.specs.List.{AllByRecursion}
use Rattle.std.specs.declared.cmp.Ordering.{Ordering}
use Rattle.vx_scheme.specs.declared.domain.Domain.{Domain}
use Rattle.vx_scheme.specs.declared.domain.Domain.TheVariants.{All, Releases}
use Rattle.vx_scheme.specs.declared.range_fault.RangeFault.{RangeFault}
use Rattle.vx_scheme.specs.declared.range_fault.RangeFault.TheVariants as fault_of
use Rattle.vx_scheme.specs.declared.back_fault.BackFault.{BackFault}
use Rattle.vx_scheme.specs.declared.back_fault.BackFault.TheVariants as back_fault_of
use Rattle.vx_scheme.specs.declared.span.Cut.{Cut}
use Rattle.vx_scheme.specs.declared.span.Span.{Span}
use Rattle.vx_scheme.specs.Cuts.{in_spans, in_bounds, IsInOrder}

-- the versions of a domain, by those of all and of releases
abbrev pub by_domain : {V : Type 0} → (V → Type 0) → (V → Type 0) → Domain → V → Type 0
by_domain InAll IsRelease All = InAll
by_domain InAll IsRelease Releases = IsRelease

-- a refusal that the language has for the text, or want of memory, which is free
abbrev pub Refused : (RangeFault → Type 0) → RangeFault → Type 0
Refused Refuses fault = (fault ≢ fault_of.NoMemory) → Refuses fault

-- What a text makes and what it is refused for is fixed by the text, and in an offered domain each text does one of the
-- two. The made spans hold the versions of the domain that are in the text.
pub record RangeLaws {V : Type 0} (order : V → V → Ordering) (IsVersion : V → Type 0) (InDomain : Domain → V → Type 0) (Offers : Domain → Type 0) (IsRange : List ℕ → Type 0) (In : List ℕ → V → Type 0) (Makes : Domain → List ℕ → List (List (List (Span V))) → Type 0) (Refuses : Domain → List ℕ → RangeFault → Type 0) : Type 0 where
  -- only a text that has a reading makes spans, and it makes one list of them
  pub makes_range : (domain : Domain) (text : List ℕ) (bounds : List (List (List (Span V)))) → Makes domain text bounds → IsRange text
  pub makes_one : (domain : Domain) (text : List ℕ) (a b : List (List (List (Span V)))) → Makes domain text a → Makes domain text b → a ≡ b
  -- no text is refused that makes spans, and none is refused twice
  pub apart : (domain : Domain) (text : List ℕ) (bounds : List (List (List (Span V)))) (fault : RangeFault) → Makes domain text bounds → ¬ (Refuses domain text fault)
  pub refuses_one : (domain : Domain) (text : List ℕ) (a b : RangeFault) → Refuses domain text a → Refuses domain text b → a ≡ b
  -- and none does neither in an offered domain: it is absurd that it makes no spans and is not refused, where want of
  -- memory is no refusal of a text
  pub answered : (domain : Domain) (text : List ℕ) → Offers domain → ((bounds : List (List (List (Span V)))) → ¬ (Makes domain text bounds)) → ((fault : RangeFault) → fault ≢ fault_of.NoMemory → ¬ (Refuses domain text fault)) → ⊥
  -- forward: the made spans hold the versions of the domain that are in the text
  pub forward : (domain : Domain) (text : List ℕ) (bounds : List (List (List (Span V)))) → Makes domain text bounds → (v : V) → IsVersion v → InDomain domain v → In text v ↔ (in_bounds order bounds v ≡ true)

-- the same for the way back, where what is printed is a function
abbrev pub BackRefused : Result (List ℕ) BackFault → BackFault → Type 0
BackRefused back fault = (fault ≢ back_fault_of.NoMemory) → back ≡ Err fault

-- the version of the cut, where there is one, is a P
abbrev pub CutIs : {V : Type 0} → (V → Type 0) → Option (Cut V) → Type 0
CutIs P None = Unit {0}
CutIs P (Some cut) = P cut.version

-- each version of the spans is a P
abbrev pub EachVersion : {V : Type 0} → (V → Type 0) → List (Span V) → Type 0
EachVersion P spans = AllByRecursion (λ span. CutIs P span.lower × CutIs P span.upper) spans

-- what is given back to a range language: spans in order and apart, and one at least
pub record IsSpans {V : Type 0} (order : V → V → Ordering) (spans : List (Span V)) : Type 0 where
  pub some : spans ≢ []
  pub in_order : IsInOrder order spans

-- the text has a reading, and the versions of the domain that are in it are those that the spans hold
pub record PrintsSpans {V : Type 0} (order : V → V → Ordering) (IsVersion InDomain : V → Type 0) (IsRange : List ℕ → Type 0) (In : List ℕ → V → Type 0) (spans : List (Span V)) (text : List ℕ) : Type 0 where
  pub range : IsRange text
  pub members : (v : V) → IsVersion v → InDomain v → In text v ↔ (in_spans order spans v ≡ true)

-- back: the printed text holds the versions of the domain that the spans hold
pub record BackLaws {V : Type 0} (order : V → V → Ordering) (IsVersion : V → Type 0) (InDomain : Domain → V → Type 0) (IsRange : List ℕ → Type 0) (In : List ℕ → V → Type 0) (back : Domain → List (Span V) → Result (List ℕ) BackFault) : Type 0 where
  pub backward : (domain : Domain) (spans : List (Span V)) (text : List ℕ) → IsSpans order spans → EachVersion IsVersion spans → back domain spans ≡ Ok text → PrintsSpans order IsVersion (InDomain domain) IsRange In spans text
