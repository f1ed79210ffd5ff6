-- A version is within the limit exactly where no numeral of its text is past it.
use Rattle.std.proofs.Common.{◌≡◌, ◌↔◌, ℕ, List, refl, Option, Some, None}
use Rattle.std.specs.List.{AllByRecursion}
use Rattle.vx_spec.specs.Marks.{marked}
use Rattle.vx_order.proofs.ScanLimits.{none_tokens, tokens_within}
use Rattle.vx_text.specs.Past.{first_past, NonePast}
use Rattle.vx_text.proofs.PastLaws.{no_digit}
use Rattle.vx_order.specs.Letters.{LetterIsWithin}
use Rattle.rpm_scheme.specs.Version.{Fields, IsWithin, ReleaseIsWithin, count_letter, letters_of, sign_letters, word_letter}
use Rattle.vx_spec.specs.Signs.{hyphen}
use Rattle.vx_text.specs.EpochParts.{Parts, whole}
use Rattle.vx_text.proofs.EpochLaws.{none_whole, whole_within}
use Rattle.vx_text.proofs.EpochVersionLaws as by_parts
use Rattle.rpm_scheme.specs.Laws.Within.{sign_within, word_within}
use Rattle.rpm_scheme.specs.Spelling.{AreVersionParts, Spells, is_part, release_letters, version_of}

-- ---- versions without a numeral past the limit are within it

part_within : (part : List ℕ) → NonePast part → AllByRecursion LetterIsWithin (letters_of part)
part_within part none = tokens_within LetterIsWithin count_letter word_letter sign_letters (λ n small. small) (λ n small. small) word_within sign_within part none

release_within : (part : Option (List ℕ)) → NonePast (marked hyphen part) → ReleaseIsWithin (release_letters part)
release_within None none = tt
release_within (Some part) none = part_within part none.1

parts_within : (text : List ℕ) (p : Parts) → AreVersionParts p → NonePast (whole p) → IsWithin (version_of text p)
parts_within text p form none =
    let rest = whole_within p form.epoch none in
    (rest.0, part_within p.main rest.1, release_within p.last rest.2)

-- ---- and the other way round

none_part : (part : List ℕ) → AllByRecursion LetterIsWithin (letters_of part) → NonePast part
none_part part all = none_tokens LetterIsWithin count_letter word_letter sign_letters (λ n small. small) (λ n small. small) word_within sign_within part all

none_marked : (part : Option (List ℕ)) → ReleaseIsWithin (release_letters part) → NonePast (marked hyphen part)
none_marked None all = tt
none_marked (Some part) all = (no_digit hyphen part refl, none_part part all)

parts_none : (text : List ℕ) (p : Parts) → AreVersionParts p → IsWithin (version_of text p) → NonePast (whole p)
parts_none text p form fits = none_whole p form.epoch fits.0 (none_part p.main fits.1) (none_marked p.last fits.2)

-- a version is within the limit exactly where none of its numerals is past it
pub limits_agree : (text : List ℕ) (v : Fields) (at : ℕ) → Spells text v → IsWithin v ↔ (first_past at text ≡ None)
limits_agree = by_parts.limits_agree is_part is_part version_of IsWithin parts_within parts_none
