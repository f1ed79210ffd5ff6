-- Two versions that a relation at a version without a release tells apart, though each version of at most a given size
-- compares alike with both.
use Rattle.std.specs.Prelude.{◌≡◌, ◌+◌, ℕ, max, false, List, [], ◌∷◌, ◌++◌, length, replicate, Option, Some, None, codes}
use Rattle.vx_spec.specs.Numerals.{numeral_text}
use Rattle.vx_order.specs.declared.letter.Letter.{Letter}
use Rattle.vx_spec.specs.Signs.{tilde}
use Rattle.rpm_scheme.specs.Version.{Fields, IsWithoutRelease, caret_rank, count_letter, sign_letter, tilde_rank}
use Rattle.relation_ranges.specs.declared.comparison.Comparison.{Comparison}
use Rattle.relation_ranges.specs.Rpm.Spans.{is_open}

-- ---- how large a version is

-- the greatest number among letters
abbrev pub greatest_number : List Letter → ℕ
greatest_number [] = 0
greatest_number (letter ∷ letters) = max letter.number (greatest_number letters)

-- the greater of the greatest number among letters and how many letters they are
abbrev pub letters_size : List Letter → ℕ
letters_size letters = max (greatest_number letters) (length letters)

-- that of the letters of a release, where there is one
abbrev pub release_size : Option (List Letter) → ℕ
release_size None = 0
release_size (Some letters) = letters_size letters

-- The size of a version: the greatest among its numerals and the number of its letters, which is the greater of the numbers of
-- letters of its version and of its release.
abbrev pub size : Fields → ℕ
size v = max v.epoch (max (letters_size v.version) (release_size v.release))

-- ---- the two versions

-- `V-N`: the version with that number as its release
abbrev pub with_release : ℕ → Fields → Fields
with_release number v = record {
  text = v.text ++ (codes "-" ++ numeral_text number);
  epoch = v.epoch;
  version = v.version;
  release = Some (count_letter number ∷ []);
}

-- `V^~~~-1`: the version followed by '^' and that many '~', with the release 1. It stands above each `V-N`, and the lower the
-- more '~' it has.
abbrev pub with_tildes : ℕ → Fields → Fields
with_tildes number v = record {
  text = v.text ++ (codes "^" ++ (replicate number tilde ++ codes "-1"));
  epoch = v.epoch;
  version = v.version ++ sign_letter caret_rank ∷ replicate number (sign_letter tilde_rank);
  release = Some (count_letter 1 ∷ []);
}

-- one more than the greater of the number and the version's size
abbrev pub beyond : ℕ → Fields → ℕ
beyond n v = max n (size v) + 1

-- For a relation without an end among the versions with a release, which is `= V`, `<= V` or `> V` where V has no release, the
-- two are `V-N` and V followed by '^' and N times '~', with the release 1. N is one more than the greater of n and V's size.
pub record Tells (n : ℕ) (operator : Comparison) (bound v w : Fields) : Type 0 where
  pub closed : is_open operator ≡ false
  pub unreleased : IsWithoutRelease bound
  pub first : v ≡ with_release (beyond n bound) bound
  pub second : w ≡ with_tildes (beyond n bound) bound
