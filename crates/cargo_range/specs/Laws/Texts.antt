-- What texts spell: exactly the versions, no text two of them, and the normal text an equal one.
use Rattle.std.proofs.Common.{◌≡◌, ◌≢◌, ◌<◌, ◌^◌, ◌+◌, ◌%◌, ◌++◌, ℕ, List, [], ◌∷◌, refl, sym, ap, ◌∙◌}
use Rattle.std.specs.Fmt.{decimal}
use Rattle.std.specs.Cmp.{tied_itself}
use Rattle.std.proofs.lemmas.Fmt.{decimal_by_steps}
use Rattle.semver.specs.Parse.{Parts}
use Rattle.semver.specs.Identifiers.{parts_text}
use Rattle.semver.proofs.Grammar.{version_parts-sound, version_parts-complete}
use Rattle.semver.proofs.Numerals.{ok-value}
use Rattle.vx_scheme.specs.Scheme.{TextLaws, NormalSpells}
use Rattle.cargo_range.specs.Version.{IsVersion, IsWithin, without_build}
use Rattle.cargo_range.specs.Order.{precedence, precedence_total}
use Rattle.cargo_range.specs.Spelling.{Spells}
use Rattle.cargo_range.specs.Writing.{normal}

-- some byte stands in front
abbrev IsSome : List ℕ → Type 0
IsSome text = (b : ℕ) × (rest : List ℕ) × (text ≡ b ∷ rest)

some_more : (text more : List ℕ) → IsSome text → text ++ more ≢ []
some_more text more s e = cc (rw s.2 at e)

decimal_some : (n : ℕ) → n < 2 ^ 64 → IsSome (decimal n)
decimal_some =
    decimal_by_steps (λ n digits. IsSome digits) (λ k low. (_, [], refl)) (λ k digits big more. (more.0, more.1 ++ (48 + k % 10) ∷ [], ap (λ (text : List ℕ). text ++ (48 + k % 10) ∷ []) more.2))

normal_spells : (v : Parts) → IsVersion v → NormalSpells precedence IsWithin Spells normal v
normal_spells v is = record {
  not_empty = some_more (decimal v.0) _ (decimal_some v.0 is.0);
  version = without_build v;
  spelled = version_parts-complete (without_build v) (is.0, is.1, is.2, is.3, refl);
  order_equal = tied_itself precedence_total v;
  same_text = refl;
  within = λ within. within;
}

pub cargo_texts : TextLaws precedence IsVersion IsWithin Spells normal
cargo_texts = record {
  version_spelled = λ v is. record { text = parts_text v; spelled = version_parts-complete v is };
  spelled_version = λ text v spelled. (version_parts-sound text v spelled).1;
  spells_one = λ text v w p q. ok-value _ _ (sym p ∙ q);
  normal_spells = normal_spells;
}
