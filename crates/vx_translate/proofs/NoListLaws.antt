-- Where two versions are told apart for each number, no list of constraints holds what the construct holds of.
use Rattle.std.proofs.Common.{◌≡◌, ◌≤◌, ℕ, Bool, List, [], ◌∷◌, sym, ◌∙◌, le_trans, le_refl}
use Rattle.std.proofs.Math.Nat.{le-max_left, le-max_right}
use Rattle.vx_scheme.specs.declared.domain.Domain.{Domain}
use Rattle.vx_scheme.specs.declared.range_fault.EndKind.{EndKind}
use Rattle.vx_scheme.specs.declared.scheme.Scheme.{Ghosts as Scheme}
use Rattle.vx_scheme.specs.Domains.{InDomain}
use Rattle.vx_range.specs.declared.making.Outcome.{Outcome}
use Rattle.vx_range.specs.Apart.{AreToldApart, HasNoEnd}
use Rattle.vx_range.specs.Pieces.{Written}
use Rattle.vx_vers.specs.declared.constraints.Constraint.{Constraint}
use Rattle.vx_vers.specs.Alike.{EachAlike}
use Rattle.vx_vers.specs.Meaning.{meaning}
use Rattle.vx_vers.proofs.AlikeLaws.{mean_alike}
use Rattle.vx_translate.specs.Necessary.{EachVersion, greatest_size, NoListHolds, HasNoList}

module _ {S V : Type 0} (scheme : Scheme S V) (domain : Domain) (size : V → ℕ) (test : V → Bool) where
  abbrev Apart : ℕ → V → V → Type 0
  Apart n v w = AreToldApart scheme.order scheme.IsVersion (InDomain scheme domain) size test n v w

  -- each version of a list of versions that are no larger compares alike with both
  each_alike : (n : ℕ) (v w : V) → Apart n v w → (list : List (Constraint V)) → EachVersion scheme.IsVersion list → greatest_size size list ≤ n → EachAlike scheme.order list v w
  each_alike n v w apart [] is le = tt
  each_alike n v w apart (c ∷ list) is le = (
    apart.alike c.version is.0 (le_trans (le-max_left (size c.version) (greatest_size size list)) le),
    each_alike n v w apart list is.1 (le_trans (le-max_right (size c.version) (greatest_size size list)) le),
  )

  same_meaning : (list : List (Constraint V)) (v w : V) → EachVersion scheme.IsVersion list → Apart (greatest_size size list) v w → meaning scheme.order v list ≡ meaning scheme.order w list
  same_meaning list v w is apart = mean_alike scheme.order v w list (each_alike (greatest_size size list) v w apart list is (le_refl (greatest_size size list)))

  no_list : (list : List (Constraint V)) (v w : V) → EachVersion scheme.IsVersion list → Apart (greatest_size size list) v w → ¬ ((x : V) → scheme.IsVersion x → InDomain scheme domain x → meaning scheme.order x list ≡ test x)
  no_list list v w is apart all =
      apart.one (sym (all v apart.versions.0 apart.inside.0) ∙ same_meaning list v w is apart ∙ all w apart.versions.1 apart.inside.1)

  no_list_holds : (AreNamed : ℕ → V → V → Type 0) → ((n : ℕ) (v w : V) → AreNamed n v w → Apart n v w) → NoListHolds scheme domain size test AreNamed
  no_list_holds AreNamed apart = record {
    same = λ list v w is named. same_meaning list v w is (apart (greatest_size size list) v w named);
    none = λ list v w is named. no_list list v w is (apart (greatest_size size list) v w named);
  }

module _ {S K C V : Type 0} (scheme : Scheme S V) (domain : Domain) (size : V → ℕ) (IsCut : List ℕ → List (List (Written K)) → Type 0) (ReadsAs : Written K → C → Type 0) (outcome : C → Outcome) (holds : C → V → Bool) (Tells : ℕ → C → V → V → Type 0) (text : List ℕ) (kind : EndKind) (at : ℕ) where
  pub has_no_list : HasNoEnd scheme.order scheme.IsVersion (InDomain scheme domain) size IsCut ReadsAs outcome holds Tells text kind at → HasNoList scheme domain size IsCut ReadsAs outcome holds Tells text kind at
  has_no_list ends = record {
    ends = ends;
    lists = no_list_holds scheme domain size (holds ends.construct) (λ n. Tells n ends.construct) ends.apart;
    no_list = λ other list is.
        let named = ends.some other (greatest_size size list) in
        no_list scheme domain size (holds ends.construct) list named.0 named.1 is (ends.apart (greatest_size size list) named.0 named.1 named.2);
  }
