-- The bytes of a version's text.
use Rattle.std.proofs.Common.{◌≡◌, ◌<◌, ◌||◌, ◌==◌, ℕ, Bool, List, true, refl, ap, ◌∙◌, arith}
use Rattle.std.specs.List.{AllByRecursion, list_all}
use Rattle.std.specs.Char.{is_ascii_digit}
use Rattle.std.specs.Str.{IsUtf8}
use Rattle.std.proofs.lemmas.Bool.Decides.{nat_tests}
use Rattle.vx_spec.proofs.TextLaws.{each_by_test, test_by_each, utf8_by_each}
use Rattle.vx_spec.specs.Signs.{colon}
use Rattle.vx_text.specs.EpochParts.{Parts, whole}
use Rattle.vx_text.proofs.EpochLaws.{last_each, whole_each}
use Rattle.deb_scheme.specs.Version.{Fields}
use Rattle.deb_scheme.specs.Laws.Unique.{made_of}
use Rattle.deb_scheme.specs.Spelling.{AreVersionParts, Spells, is_revision, is_revision_byte, is_upstream, is_upstream_byte}

-- a byte of a version: one of an upstream part, or ':'
abbrev pub is_version_byte : ℕ → Bool
is_version_byte b = is_upstream_byte b || b == colon

abbrev IsVersionByte : ℕ → Type 0
IsVersionByte b = is_version_byte b ≡ true

digit_is : (b : ℕ) → is_ascii_digit b ≡ true → is_version_byte b ≡ true
digit_is b is = rw is refl

upstream_is : (b : ℕ) → is_upstream_byte b ≡ true → is_version_byte b ≡ true
upstream_is b is = rw is refl

revision_is : (b : ℕ) → is_revision_byte b ≡ true → is_version_byte b ≡ true
revision_is b is = rw is refl

upstream_bytes : (part : List ℕ) → is_upstream part ≡ true → AllByRecursion IsVersionByte part
upstream_bytes part is = each_by_test IsVersionByte is_upstream_byte part upstream_is (made_of is_upstream_byte part is)

revision_bytes : (part : List ℕ) → is_revision part ≡ true → AllByRecursion IsVersionByte part
revision_bytes part is = each_by_test IsVersionByte is_revision_byte part revision_is (made_of is_revision_byte part is)

whole_bytes : (p : Parts) → AreVersionParts p → AllByRecursion IsVersionByte (whole p)
whole_bytes p form =
    whole_each IsVersionByte digit_is refl p form.epoch (upstream_bytes p.main form.main) (last_each IsVersionByte is_revision revision_bytes refl p.last form.last)

-- each byte of a version's text is one of a version
pub spelled_bytes : (text : List ℕ) (v : Fields) → Spells text v → list_all is_version_byte text ≡ true
spelled_bytes text v s = ap (list_all is_version_byte) s.joined ∙ test_by_each IsVersionByte is_version_byte (whole s.parts) (λ b is. is) (whole_bytes s.parts s.form)

ascii : (b : ℕ) → is_version_byte b ≡ true → b < 128
ascii b is = grind (arith, nat_tests)

-- so it is UTF-8
pub spelled_utf8 : (text : List ℕ) (v : Fields) → Spells text v → IsUtf8 text
spelled_utf8 text v s = utf8_by_each text (each_by_test (λ b. b < 128) is_version_byte text ascii (spelled_bytes text v s))
