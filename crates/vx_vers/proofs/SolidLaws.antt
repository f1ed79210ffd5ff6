-- From the head and the parts of a text to what it spells, and from a text without blanks to one with them.
use Rattle.std.proofs.Common.{◌≡◌, ◌≢◌, ℕ, true, List, [], ◌∷◌, length, sym, ap, subst, inl, inr, arith, Result, Ok, Err, Ordering}
use Rattle.std.specs.Prelude.{IfErr, IfOk}
use Rattle.std.specs.List.{list_all}
use Rattle.vx_spec.specs.Runs.{is_solid}
use Rattle.vx_scheme.specs.declared.name.SchemeName.{SchemeName}
use Rattle.vx_vers.specs.declared.constraints.Constraint.{Constraint}
use Rattle.vx_vers.specs.declared.fault.VersFault.{VersFault}
use Rattle.vx_vers.specs.declared.fault.VersFault.TheVariants as fault_of
use Rattle.vx_vers.specs.Grammar.{AreParts, EachWithin, HasStar, IsStarAlone, SpellsList, SpellsSolid}
use Rattle.vx_vers.specs.Heads.{HasHead, NoHead, solid}
use Rattle.vx_vers.specs.Steps.Reading.{IsSolidReadAs, IsWrittenReadAs}
use Rattle.vx_vers.specs.Refusals.{Refuses, RefusesSolid}
use Rattle.vx_vers.proofs.HeadLaws.{filter_all, one_head}

pub same_solid : (text : List ℕ) → list_all is_solid text ≡ true → solid text ≡ text
same_solid text all = filter_all is_solid text all

pub no_head : (text : List ℕ) (name : SchemeName) → list_all is_solid text ≡ true → NoHead text → (behind : List ℕ) → ¬ (HasHead text name behind)
no_head text name all none behind h = none name (behind, subst (λ t. HasHead t name behind) (sym (same_solid text all)) h)

pub other_head : (text rest : List ℕ) (a name : SchemeName) → list_all is_solid text ≡ true → HasHead (solid text) a rest → a ≢ name → (behind : List ℕ) → ¬ (HasHead text name behind)
other_head text rest a name all is other behind h = other (one_head is (subst (λ t. HasHead t name behind) (sym (same_solid text all)) h)).0

-- one star is alone
pub star_alone : {C : Type 0} (written : List (List ℕ)) (list : List C) → HasStar written → length written ≡ 1 → list ≡ [] → IsStarAlone written list
star_alone [] list star one every = absurd star
star_alone (text ∷ []) list (inl e) one every = record { star = ap (λ (t : List ℕ). t ∷ []) e; every = every }
star_alone (text ∷ []) list (inr h) one every = absurd h
star_alone (text ∷ next ∷ written) list star one every = absurd (omega arith)

module _ {V : Type 0} (name : SchemeName) (order : V → V → Ordering) (Spells : List ℕ → V → Type 0) (IsWithin : V → Type 0) where
  pub read_whole : (text behind : List ℕ) (written : List (List ℕ)) (answer : Result (List (Constraint V)) VersFault) → HasHead text name behind → AreParts behind written
      → IsWrittenReadAs order Spells IsWithin written answer → IsSolidReadAs name order Spells IsWithin text answer
  read_whole text behind written (Ok list) head parts h = (record { written = written; is = record { behind = behind; head = head; parts = parts }; means = h.0 }, h.1)
  read_whole text behind written (Err fault) head parts h = λ cause. inr (record { written = written; is = record { behind = behind; head = head; parts = parts }; refused = h cause })

  ok_solid : (text : List ℕ) (answer : Result (List (Constraint V)) VersFault) → IsSolidReadAs name order Spells IsWithin text answer → IfOk answer (λ list. SpellsSolid name order Spells text list × EachWithin IsWithin list)
  ok_solid text (Ok list) h = h
  ok_solid text (Err fault) h = tt

  err_solid : (text : List ℕ) (answer : Result (List (Constraint V)) VersFault) → IsSolidReadAs name order Spells IsWithin text answer → IfErr answer (λ fault. fault ≢ fault_of.NoMemory → RefusesSolid name order Spells IsWithin text fault)
  err_solid text (Ok list) h = tt
  err_solid text (Err fault) h = h

  -- the same of the text with its blanks
  pub read_ok : (text plain : List ℕ) (answer : Result (List (Constraint V)) VersFault) → plain ≡ solid text → IsSolidReadAs name order Spells IsWithin plain answer
      → IfOk answer (λ list. SpellsList name order Spells text list × EachWithin IsWithin list)
  read_ok text plain answer e h = ok_solid (solid text) answer (subst (λ t. IsSolidReadAs name order Spells IsWithin t answer) e h)

  pub read_err : (text plain : List ℕ) (answer : Result (List (Constraint V)) VersFault) → plain ≡ solid text → IsSolidReadAs name order Spells IsWithin plain answer
      → IfErr answer (λ fault. fault ≢ fault_of.NoMemory → Refuses name order Spells IsWithin text fault)
  read_err text plain answer e h = err_solid (solid text) answer (subst (λ t. IsSolidReadAs name order Spells IsWithin t answer) e h)
