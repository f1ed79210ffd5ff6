-- What is read is within the limit exactly where no numeral that counts is past it.
use Rattle.std.proofs.Common.{◌≡◌, ◌↔◌, ℕ, List, Option, Some, None, refl, sym, ◌∙◌, subst}
use Rattle.vx_range.specs.Lists.{Plain}
use Rattle.pep440_scheme.specs.Version.{Fields, IsWithin}
use Rattle.pep440_scheme.specs.Spelling.{Spells}
use Rattle.pep440_scheme.specs.Past.{past_numeral_of}
use Rattle.pep440_scheme.proofs.PastLaws as scheme
use Rattle.pep440_range.specs.declared.construct.Construct.{Construct}
use Rattle.pep440_range.specs.declared.construct.Construct.TheVariants.{Compares, Equal, NotEqual, Within, NotWithin}
use Rattle.pep440_range.specs.declared.construct.Operator.{Operator}
use Rattle.pep440_range.specs.declared.construct.Operator.TheVariants as operator_of
use Rattle.pep440_range.specs.Reading.{Begun, ReadsAs, ReadsBy, Takes, TakesEither, before_star, operand_of, operator_at, version_or_release}
use Rattle.pep440_range.specs.Refusals.{ConstructIsWithin, IsPast, operand_place, past_behind, past_by}

-- of a construct that is made of a version
of_version : (make : Fields → Construct) → ((v : Fields) → ConstructIsWithin (make v) ≡ IsWithin v)
    → (at : ℕ) (text : List ℕ) (v : Fields) (c : Construct)
    → Spells text v → c ≡ make v → ConstructIsWithin c ↔ (past_numeral_of at text ≡ None)
of_version make same at text v c s e =
    let agrees = scheme.limits_agree text v at s in (
      λ within. agrees.0 (subst (λ (T : Type 0). T) (same v) (subst ConstructIsWithin e within)),
      λ none. subst ConstructIsWithin (sym e) (subst (λ (T : Type 0). T) (sym (same v)) (agrees.1 none)),
    )

of_either : (of of' : Fields → Construct) → ((v : Fields) → ConstructIsWithin (of v) ≡ IsWithin v)
    → ((v : Fields) → ConstructIsWithin (of' v) ≡ IsWithin v)
    → (at : ℕ) (text : List ℕ) (star : Option (List ℕ)) (c : Construct) → TakesEither of of' text star c
    → ConstructIsWithin c ↔ (past_numeral_of at (version_or_release text star) ≡ None)
of_either of of' same same' at text None c t = of_version of same at text t.0 c t.1 t.2
of_either of of' same same' at text (Some front) c t = of_version of' same' at front t.0 c t.1.spelled t.2

taken : (operator : Operator) (at : ℕ) (text : List ℕ) (c : Construct) → Takes operator text c
    → ConstructIsWithin c ↔ (past_by operator at text ≡ None)
taken operator_of.Identical at text c t = (λ within. refl, λ none. subst ConstructIsWithin (sym t.is) tt)
taken operator_of.Equal at text c t = of_either Equal Within (λ v. refl) (λ v. refl) at text (before_star text) c t
taken operator_of.NotEqual at text c t = of_either NotEqual NotWithin (λ v. refl) (λ v. refl) at text (before_star text) c t
taken (operator_of.Compares how) at text c t = of_version (Compares how) (λ v. refl) at text t.version c t.spelled t.is

begun_agrees : (piece : Plain) (c : Construct) (begun : Option Begun) → ReadsBy begun c
    → ConstructIsWithin c ↔ (past_behind piece begun ≡ None)
begun_agrees piece c None reads = absurd reads
begun_agrees piece c (Some begun) reads = taken begun.operator (operand_place piece (operand_of begun)) (operand_of begun) c reads

no_some : (answer : Option ℕ) → ((at : ℕ) → answer ≡ Some at → ⊥) → answer ≡ None
no_some None none = refl
no_some (Some at) none = absurd (none at refl)

pub limits_agree : (piece : Plain) (c : Construct) → ReadsAs piece c → ConstructIsWithin c ↔ ((at : ℕ) → ¬ (IsPast piece at))
limits_agree piece c reads =
    let agrees = begun_agrees piece c (operator_at piece.bytes) reads in (
      λ within at past. let e = sym past.first ∙ agrees.0 within in cc e,
      λ none. agrees.1 (no_some (past_behind piece (operator_at piece.bytes)) (λ at is. none at (record {
        construct =
            c;
        reads = reads;
        first = is;
      }))),
    )
