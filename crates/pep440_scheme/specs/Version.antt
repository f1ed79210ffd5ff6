-- A version after PEP 440, "Version scheme": its fields, with numbers of any size and texts as their bytes; when they are a
-- version's; and the limit of numerals.
use Rattle.std.specs.Prelude.{◌≡◌, ◌&&◌, ◌||◌, ◌^◌, ◌<◌, not, nat_lt, ℕ, Bool, true, List, [], length, Option, Some, None}
use Rattle.std.specs.Char.{is_ascii_digit, is_ascii_lowercase}
use Rattle.std.specs.List.{AllByRecursion, list_all}
use Rattle.vx_spec.specs.Numerals.{is_numeral}
use Rattle.vx_spec.specs.Runs.{is_made_of}
use Rattle.vx_scheme.specs.declared.ident.Ident.{Ident}
use Rattle.vx_scheme.specs.declared.ident.Ident.TheVariants.{Number, Word}
use Rattle.pep440_scheme.specs.declared.version.PrePart.{PrePart}

-- the fields, as "Version scheme" names them: the epoch, the release, the pre-release, the post-release, the developmental
-- release, and the identifiers of the local version label
pub record Fields : Type 0 where
  pub epoch : ℕ
  pub release : List ℕ
  pub pre : Option PrePart
  pub post : Option ℕ
  pub dev : Option ℕ
  pub local : List Ident

-- a small letter of ASCII or a digit
abbrev pub is_word_byte : ℕ → Bool
is_word_byte b = is_ascii_digit b || is_ascii_lowercase b

-- one such byte or more, not all of them digits
abbrev pub is_word : List ℕ → Bool
is_word text = is_made_of is_word_byte text && not (is_numeral text)

-- "Local version identifiers": a part of a label that is digits alone is a number, and any other is compared without regard
-- to its case
abbrev pub is_local : Ident → Bool
is_local (Number n) = true
is_local (Word w) = is_word w

-- The fields are a version's: "Final releases": the release has one number or more; and each part of the label is one.
pub record IsVersion (v : Fields) : Type 0 where
  pub release : nat_lt 0 (length v.release) ≡ true
  pub local : list_all is_local v.local ≡ true

-- a number is within the limit of 128 bits
abbrev pub IsSmall : ℕ → Type 0
IsSmall n = n < 2 ^ 128

-- the number, where there is one, is within it
abbrev pub IsSmallOption : Option ℕ → Type 0
IsSmallOption None = Unit {0}
IsSmallOption (Some n) = IsSmall n

-- so is the number of the pre-release, where there is one
abbrev pub IsSmallPre : Option PrePart → Type 0
IsSmallPre None = Unit {0}
IsSmallPre (Some pre) = IsSmall pre.number

-- and that of a part of the label, where it is one
abbrev pub IsSmallLocal : Ident → Type 0
IsSmallLocal (Number n) = IsSmall n
IsSmallLocal (Word w) = Unit {0}

-- each number of the version is within the limit of 128 bits
pub record IsWithin (v : Fields) : Type 0 where
  pub epoch : IsSmall v.epoch
  pub release : AllByRecursion IsSmall v.release
  pub pre : IsSmallPre v.pre
  pub post : IsSmallOption v.post
  pub dev : IsSmallOption v.dev
  pub local : AllByRecursion IsSmallLocal v.local

-- "Public version identifiers": the version has no local version label
abbrev pub IsPublic : Fields → Type 0
IsPublic v = v.local ≡ []

-- "Final releases": the version is an epoch and a release alone
pub record IsRelease (v : Fields) : Type 0 where
  pub pre : v.pre ≡ None
  pub post : v.post ≡ None
  pub dev : v.dev ≡ None
  pub local : IsPublic v

-- "Local version identifiers": the public part of a version
abbrev pub public_of : Fields → Fields
public_of v = record { epoch = v.epoch; release = v.release; pre = v.pre; post = v.post; dev = v.dev; local = [] }
