-- The canonical text of a VERS text, over any scheme.
use Rattle.std.specs.Prelude.{◌≡◌, ℕ, true, List}
use Rattle.vx_scheme.specs.declared.scheme.Scheme.{Ghosts as Scheme}
use Rattle.vx_vers.specs.declared.constraints.Constraint.{Constraint}
use Rattle.vx_vers.specs.Meaning.{kind, meaning}
use Rattle.vx_vers.specs.Texts.{vers_text}
use Rattle.vx_vers.specs.Validity.{is_valid}
use Rattle.vx_simplify.specs.Simplified.{simplified}
use Rattle.vx_translate.specs.VersTexts.{SpellsVers, IsBadVers}
use Rattle.vx_translate.specs.declared.refusal.Refusal.{Refusal}
use Rattle.vx_translate.specs.declared.refusal.Refusal.TheVariants as refusal_of

-- The text is read, and the answer is the printed text of its simplified list.
pub record PrintsSimplified {S V : Type 0} (scheme : Scheme S V) (text out : List ℕ) : Type 0 where
  pub list : List (Constraint V)
  pub read : SpellsVers scheme text list
  pub printed : out ≡ vers_text scheme.name scheme.normal (simplified kind list)

-- The answer is read as a valid list, which means what the list as read means, at versions with numerals of any size,
-- and simplifies no further.
pub record MeansSame {S V : Type 0} (scheme : Scheme S V) (text out : List ℕ) : Type 0 where
  pub list : List (Constraint V)
  pub read : SpellsVers scheme text list
  pub canonical : List (Constraint V)
  pub again : SpellsVers scheme out canonical
  pub valid : is_valid kind canonical ≡ true
  pub same : (v : V) → meaning scheme.order v canonical ≡ meaning scheme.order v list
  pub simple : simplified kind canonical ≡ canonical

-- when each refusal comes; want of memory is free
abbrev pub RefusesCanonical : {S V : Type 0} → Scheme S V → List ℕ → Refusal → Type 0
RefusesCanonical scheme text (refusal_of.BadVers part k) = IsBadVers scheme text (refusal_of.BadVers part k)
RefusesCanonical scheme text refusal_of.NoMemory = Unit {0}
RefusesCanonical scheme text _ = ⊥
