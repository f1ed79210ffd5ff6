-- The bytes of parts hold no signs of others, so that no text spells two versions.
use Rattle.std.proofs.Common.{◌≡◌, ◌≢◌, ℕ, List, [], ◌∷◌, true, false, refl}
use Rattle.std.specs.List.{list_all}
use Rattle.std.specs.Char.{is_ascii_alphanumeric}
use Rattle.std.proofs.lemmas.Bool.{and_parts}
use Rattle.vx_spec.specs.Marks.{Lacks}
use Rattle.vx_spec.specs.Runs.{begins}
use Rattle.vx_spec.proofs.EndLaws.{lacks_by}
use Rattle.vx_spec.specs.Signs.{colon, hyphen}
use Rattle.vx_text.proofs.EpochVersionLaws as by_parts
use Rattle.rpm_scheme.specs.Spelling.{Spells, is_part, is_part_byte, version_of}
use Rattle.rpm_scheme.specs.Version.{Fields}

pub part_bytes : (text : List ℕ) → is_part text ≡ true → list_all is_part_byte text ≡ true
part_bytes text is = (and_parts (begins is_ascii_alphanumeric text) (list_all is_part_byte text) is).1

pub part_some : (part : List ℕ) → is_part part ≡ true → part ≢ []
part_some [] is e = cc is
part_some (b ∷ part) is e = cc e

pub part_lacks : (mark : ℕ) → is_part_byte mark ≡ false → (part : List ℕ) → is_part part ≡ true → Lacks mark part
part_lacks mark fails part is = lacks_by is_part_byte mark fails part (part_bytes part is)

pub version_lacks : (part : List ℕ) → is_part part ≡ true → Lacks colon part
version_lacks part is = part_lacks colon refl part is

pub release_lacks : (part : List ℕ) → is_part part ≡ true → Lacks colon part × Lacks hyphen part
release_lacks part is = (part_lacks colon refl part is, part_lacks hyphen refl part is)

-- no text spells two versions
pub one_reading : (text : List ℕ) (v w : Fields) → Spells text v → Spells text w → v ≡ w
one_reading = by_parts.one_reading is_part is_part version_of version_lacks release_lacks
