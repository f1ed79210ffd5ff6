-- What texts give of the versions that they spell holds of the versions of a list that is read.
use Rattle.std.proofs.Common.{◌⊎◌, ℕ, List, [], ◌∷◌, sym, subst, inl, inr}
use Rattle.std.specs.List.{AllByRecursion}
use Rattle.std.specs.Str.{IsUtf8}
use Rattle.std.proofs.lemmas.List.Elements.{All-from_recursion, recursion_from_All}
use Rattle.std.proofs.lemmas.List.Sorted.{All-permutation}
use Rattle.vx_scheme.specs.declared.scheme.Scheme.{Ghosts as Scheme}
use Rattle.vx_vers.specs.declared.constraints.Constraint.{Constraint}
use Rattle.vx_vers.specs.Grammar.{SpellEach, IsStarAlone, IsListOf}
use Rattle.vx_translate.specs.VersTexts.{SpellsVers}

module _ {S V : Type 0} (scheme : Scheme S V) (text : List ℕ) (P : V → Type 0) (gives : (t : List ℕ) (v : V) → IsUtf8 t → scheme.Spells t v → P v) where
  abbrev OfConstraint : Constraint V → Type 0
  OfConstraint c = P c.version

  each_spelled : (texts : List (List ℕ)) (constraints : List (Constraint V)) → SpellEach scheme.Spells texts constraints → AllByRecursion OfConstraint constraints
  each_spelled [] [] spelled = tt
  each_spelled [] (c ∷ constraints) spelled = absurd spelled
  each_spelled (t ∷ texts) [] spelled = absurd spelled
  each_spelled (t ∷ texts) (c ∷ constraints) spelled = (gives _ c.version spelled.0.form.utf8 spelled.0.version, each_spelled texts constraints spelled.1)

  each_meant : (written : List (List ℕ)) (list : List (Constraint V)) → IsStarAlone written list ⊎ IsListOf scheme.order scheme.Spells written list → AllByRecursion OfConstraint list
  each_meant written list (inl star) = subst (AllByRecursion OfConstraint) (sym star.every) tt
  each_meant written list (inr l) =
      recursion_from_All OfConstraint list (All-permutation OfConstraint l.constraints list l.same (All-from_recursion OfConstraint l.constraints (each_spelled written l.constraints l.spelled)))

  -- what a text in UTF-8 gives of the version that it spells holds of each version of a list that is read
  pub read_each : (list : List (Constraint V)) → SpellsVers scheme text list → AllByRecursion OfConstraint list
  read_each list read = each_meant read.spelled.written list read.spelled.means

-- the versions of a list that is read are versions
pub read_versions : {S V : Type 0} (scheme : Scheme S V) (text : List ℕ) (spelled_version : (t : List ℕ) (v : V) → scheme.Spells t v → scheme.IsVersion v) (list : List (Constraint V))
    → SpellsVers scheme text list → AllByRecursion (λ c. scheme.IsVersion c.version) list
read_versions scheme text spelled_version = read_each scheme text scheme.IsVersion (λ t v utf8 spelled. spelled_version t v spelled)
