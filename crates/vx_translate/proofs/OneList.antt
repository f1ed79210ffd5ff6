-- A VERS text is read as one list or has one refusal, and never both.
use Rattle.std.proofs.Common.{◌≡◌, ℕ, List, sym, ap, ◌∙◌}
use Rattle.std.specs.Cmp.{IsTotalOrder}
use Rattle.vx_scheme.specs.declared.scheme.Scheme.{Ghosts as Scheme}
use Rattle.vx_scheme.specs.Scheme.{TextLaws}
use Rattle.vx_vers.specs.declared.constraints.Constraint.{Constraint}
use Rattle.vx_vers.specs.Heads.{solid}
use Rattle.vx_vers.proofs.OneList.{one_list, one_refusal, unspelled}
use Rattle.vx_translate.specs.Refusals.{refusal_of_vers}
use Rattle.vx_translate.specs.VersTexts.{SpellsVers, IsBadVers}
use Rattle.vx_translate.specs.declared.refusal.Refusal.{Refusal}

module _ {S V : Type 0} (scheme : Scheme S V) (total : IsTotalOrder scheme.order) (texts : TextLaws scheme.order scheme.IsVersion scheme.IsWithin scheme.Spells scheme.normal) (text : List ℕ) where
  pub one_read : (a b : List (Constraint V)) → SpellsVers scheme text a → SpellsVers scheme text b → a ≡ b
  one_read a b p q = one_list scheme.Spells texts.spells_one scheme.order total scheme.name (solid text) a b p.spelled q.spelled

  pub one_bad : (a b : Refusal) → IsBadVers scheme text a → IsBadVers scheme text b → a ≡ b
  one_bad a b p q =
      p.called ∙ ap refusal_of_vers (one_refusal scheme.Spells texts.spells_one scheme.order total scheme.IsWithin scheme.name (solid text) p.fault q.fault p.first q.first) ∙ sym q.called

  pub read_or_bad : (list : List (Constraint V)) (refusal : Refusal) → SpellsVers scheme text list → IsBadVers scheme text refusal → ⊥
  read_or_bad list refusal read bad =
      unspelled scheme.Spells texts.spells_one scheme.order total scheme.IsWithin scheme.name (solid text) bad.fault list bad.first read.spelled read.within
