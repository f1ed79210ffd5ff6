-- What a refusal for want of an end proves: no list of constraints holds just the versions of the domain
-- that the refused construct holds of. Of PyPI's `===T` it proves this where T is, letter case aside, the normal text of a version
-- of the domain.
use Rattle.std.specs.Prelude.{◌≡◌, ◌≢◌, ℕ, max, Bool, List, [], ◌∷◌}
use Rattle.std.specs.List.{AllByRecursion}
use Rattle.vx_scheme.specs.declared.domain.Domain.{Domain}
use Rattle.vx_scheme.specs.declared.range_fault.EndKind.{EndKind}
use Rattle.vx_scheme.specs.declared.range_fault.EndKind.TheVariants.{ArbitraryEquality}
use Rattle.vx_scheme.specs.declared.scheme.Scheme.{Ghosts as Scheme}
use Rattle.vx_scheme.specs.Domains.{InDomain}
use Rattle.vx_range.specs.declared.making.Outcome.{Outcome}
use Rattle.vx_range.specs.Apart.{HasNoEnd}
use Rattle.vx_range.specs.Pieces.{Written}
use Rattle.vx_vers.specs.declared.constraints.Constraint.{Constraint}
use Rattle.vx_vers.specs.Meaning.{meaning}
use Rattle.pep440_range.specs.contracts.range.PypiRangeScheme.TheImpl.{ghosts as pypi_scheme}
use Rattle.pep440_range.specs.Apart as pypi_apart
use Rattle.pep440_range.specs.Holds as pypi_holds
use Rattle.pep440_range.specs.Reading as pypi
use Rattle.pep440_range.specs.Refusals as pypi_refusals
use Rattle.relation_ranges.specs.NoEnd.{relation_tells}
use Rattle.relation_ranges.specs.Range.{relation_holds, relation_outcome}
use Rattle.relation_ranges.specs.Gem.Apart as gem_apart
use Rattle.relation_ranges.specs.Gem.Holds as gem_holds
use Rattle.relation_ranges.specs.Gem.Members.{gem_scheme}
use Rattle.relation_ranges.specs.Gem.Reading as gem
use Rattle.relation_ranges.specs.Gem.Spans as gem_spans
use Rattle.relation_ranges.specs.Rpm.Apart as rpm_apart
use Rattle.relation_ranges.specs.Rpm.Holds as rpm_holds
use Rattle.relation_ranges.specs.Rpm.Members.{rpm_scheme}
use Rattle.relation_ranges.specs.Rpm.Reading as rpm
use Rattle.relation_ranges.specs.Rpm.Spans as rpm_spans

-- each constraint of the list has a version of the scheme
abbrev pub EachVersion : {V : Type 0} → (V → Type 0) → List (Constraint V) → Type 0
EachVersion IsVersion list = AllByRecursion (λ c. IsVersion c.version) list

-- the greatest size of a version in the list, 0 where it has none
abbrev pub greatest_size : {V : Type 0} → (V → ℕ) → List (Constraint V) → ℕ
greatest_size size [] = 0
greatest_size size (c ∷ list) = max (size c.version) (greatest_size size list)

-- Two versions are named for each number. A list of any constraints means the same at both, where the number is the greatest
-- size of its versions; and so it does not hold just those versions of the domain that the test holds of.
pub record NoListHolds {S V : Type 0} (scheme : Scheme S V) (domain : Domain) (size : V → ℕ) (test : V → Bool) (AreNamed : ℕ → V → V → Type 0) : Type 0 where
  pub same : (list : List (Constraint V)) (v w : V) → EachVersion scheme.IsVersion list → AreNamed (greatest_size size list) v w → meaning scheme.order v list ≡ meaning scheme.order w list
  pub none : (list : List (Constraint V)) (v w : V) → EachVersion scheme.IsVersion list → AreNamed (greatest_size size list) v w → ¬ ((x : V) → scheme.IsVersion x → InDomain scheme domain x → meaning scheme.order x list ≡ test x)

-- A construct of the text that begins at this place has no end of this kind, and no list holds just what it holds of: of two
-- versions that are named for a number that suits the list, and, where the construct does not compare texts, without more.
pub record HasNoList {S K C V : Type 0} (scheme : Scheme S V) (domain : Domain) (size : V → ℕ) (IsCut : List ℕ → List (List (Written K)) → Type 0) (ReadsAs : Written K → C → Type 0) (outcome : C → Outcome) (holds : C → V → Bool) (Tells : ℕ → C → V → V → Type 0) (text : List ℕ) (kind : EndKind) (at : ℕ) : Type 0 where
  pub ends : HasNoEnd scheme.order scheme.IsVersion (InDomain scheme domain) size IsCut ReadsAs outcome holds Tells text kind at
  pub lists : NoListHolds scheme domain size (holds ends.construct) (λ n. Tells n ends.construct)
  pub no_list : kind ≢ ArbitraryEquality → (list : List (Constraint V)) → EachVersion scheme.IsVersion list → ¬ ((x : V) → scheme.IsVersion x → InDomain scheme domain x → meaning scheme.order x list ≡ holds ends.construct x)

-- ---- by scheme

-- Of a scheme all of whose constructs have their ends the refusal never comes.
abbrev pub NeverComes : Domain → List ℕ → EndKind → ℕ → Type 0
NeverComes domain text kind at = ⊥

abbrev pub PypiHasNoList : Domain → List ℕ → EndKind → ℕ → Type 0
PypiHasNoList domain =
    HasNoList pypi_scheme domain pypi_apart.size pypi.IsCut pypi.ReadsAs (pypi_refusals.outcome domain) pypi_holds.holds (pypi_apart.AreWitnesses domain)

abbrev pub GemHasNoList : Domain → List ℕ → EndKind → ℕ → Type 0
GemHasNoList domain =
    HasNoList gem_scheme domain gem_apart.size gem.IsCut gem.ReadsAs (relation_outcome (gem_spans.outcome domain)) (relation_holds gem_holds.holds) (relation_tells gem_apart.Tells)

abbrev pub RpmHasNoList : Domain → List ℕ → EndKind → ℕ → Type 0
RpmHasNoList domain =
    HasNoList rpm_scheme domain rpm_apart.size rpm.IsCut rpm.ReadsAs (relation_outcome (rpm_spans.outcome domain)) (relation_holds rpm_holds.holds) (relation_tells rpm_apart.Tells)
