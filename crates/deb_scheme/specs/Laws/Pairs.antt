-- A pair has a byte at least.
use Rattle.std.proofs.Common.{◌≤◌, ℕ, List, ◌∷◌, length, refl, inl, inr, arith}
use Rattle.std.specs.Char.{is_ascii_digit}
use Rattle.std.proofs.lemmas.Bool.{cases_Bool}
use Rattle.vx_spec.specs.Runs.{past}
use Rattle.vx_spec.proofs.RunLaws.{past_step, past_stays, past_most}
use Rattle.deb_scheme.specs.Version.{is_other, behind_pair}

pub behind_less : (b : ℕ) (part : List ℕ) → length (behind_pair (b ∷ part)) ≤ length part
behind_less b part = elim (cases_Bool (is_ascii_digit b)) [
  | inl digit ↦
      let stays = past_stays is_other b part (rw digit refl) in
      let steps = past_step is_ascii_digit b part digit in
      rw (stays, steps) (past_most is_ascii_digit part)
  | inr other ↦
      let steps = past_step is_other b part (rw other refl) in
      rw steps (omega (arith, past_most is_ascii_digit (past is_other part), past_most is_other part))
]
