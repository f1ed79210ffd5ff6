-- A check that the scheme refuses for the candidate.
use Rattle.std.proofs.Common.{◌≡◌, ◌≢◌, ℕ, List, sym, ap, subst, ◌∙◌}
use Rattle.vx_scheme.specs.declared.scheme.Scheme.{Ghosts as Scheme}
use Rattle.vx_vers.specs.declared.constraints.Constraint.{Constraint}
use Rattle.vx_translate.specs.Checking.{HasCandidate, RefusesCheck}
use Rattle.vx_translate.specs.Having.{IsBadVersion}
use Rattle.vx_translate.specs.Refusals.{check_refusal_of}
use Rattle.vx_translate.specs.VersTexts.{SpellsVers}
use Rattle.vx_translate.specs.declared.check_refusal.CheckRefusal.{CheckRefusal}
use Rattle.vx_translate.specs.declared.check_refusal.CheckRefusal.TheVariants as check_refused
use Rattle.vx_translate.specs.declared.refusal.Refusal.{Refusal}
use Rattle.vx_translate.specs.declared.refusal.Refusal.TheVariants as refused

pub bad_candidate : {S V : Type 0} (scheme : Scheme S V) (purl vers : List ℕ) (list : List (Constraint V)) (candidate : List ℕ) (fault : Refusal) (refusal : CheckRefusal) → refusal ≡ check_refusal_of fault
    → SpellsVers scheme vers list → HasCandidate scheme.name purl candidate
    → (fault ≢ refused.NoMemory → (fault ≡ refused.BadVersion) × ((text : List ℕ) → SpellsVers scheme text list → IsBadVersion scheme text candidate))
    → refusal ≢ check_refused.NoMemory → RefusesCheck scheme purl vers refusal
bad_candidate scheme purl vers list candidate fault refusal is read given bad some =
    let (bad_version, refuses) = bad (λ none. some (is ∙ ap check_refusal_of none)) in
    subst (RefusesCheck scheme purl vers) (sym (is ∙ ap check_refusal_of bad_version)) (record { candidate = candidate; given = given; refused = refuses vers read })
