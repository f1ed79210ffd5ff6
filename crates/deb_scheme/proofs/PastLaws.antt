-- A version is within the limit exactly where no numeral of its text is past it.
use Rattle.std.proofs.Common.{◌≡◌, ◌↔◌, ◌<◌, ◌≤◌, ◌^◌, ◌++◌, ℕ, zero, suc, true, false, List, [], ◌∷◌, length, drop, refl, sym, ap, ◌∙◌, subst, Option, Some, None, arith}
use Rattle.std.specs.List.{AllByRecursion, prefix_len}
use Rattle.std.specs.Char.{is_ascii_digit}
use Rattle.std.proofs.lemmas.Bool.{not-true}
use Rattle.std.proofs.lemmas.Bool.Decides.{nat_tests}
use Rattle.vx_spec.specs.Marks.{marked}
use Rattle.vx_spec.specs.Runs.{run, past}
use Rattle.vx_spec.proofs.RunLaws.{run_past, past_begins, run_all}
use Rattle.vx_spec.proofs.EachLaws.{each_append, each_behind}
use Rattle.vx_spec.proofs.TextLaws.{each_by_test}
use Rattle.vx_order.specs.Scanning.{scanned_in}
use Rattle.vx_order.specs.Laws.Scanning.{each_front}
use Rattle.vx_text.specs.Past.{first_past, NonePast}
use Rattle.vx_text.proofs.PastLaws.{no_digit, none_after, none_number, none_others, none_run}
use Rattle.vx_order.specs.Letters.{LetterIsWithin}
use Rattle.deb_scheme.specs.Version.{Fields, IsWithin, is_other, letters_of, first_letters, behind_pair}
use Rattle.vx_spec.specs.Signs.{hyphen}
use Rattle.vx_text.specs.EpochParts.{Parts, is_optional, whole}
use Rattle.vx_text.proofs.EpochLaws.{none_whole, whole_within}
use Rattle.vx_text.proofs.EpochVersionLaws as by_parts
use Rattle.deb_scheme.specs.Spelling.{AreVersionParts, Spells, is_revision, is_revision_byte, is_upstream, is_upstream_byte, revision_text, version_of}
use Rattle.deb_scheme.specs.Laws.Unique.{made_of}
use Rattle.deb_scheme.specs.Laws.Pairs.{behind_less}
use Rattle.deb_scheme.proofs.PairLaws.{number_within, pair_within}

-- ---- versions without a numeral past the limit are within it

bytes_drop : (n : ℕ) (text : List ℕ) → AllByRecursion (λ b. b < 2 ^ 128) text → AllByRecursion (λ b. b < 2 ^ 128) (drop n text)
bytes_drop zero text h = h
bytes_drop (suc n) [] h = tt
bytes_drop (suc n) (b ∷ text) h = bytes_drop n text h.1

pairs_within : (n : ℕ) (part : List ℕ) → NonePast part → AllByRecursion (λ b. b < 2 ^ 128) part → AllByRecursion LetterIsWithin (scanned_in first_letters behind_pair n part)
pairs_within zero part h bytes = tt
pairs_within (suc n) [] h bytes = tt
pairs_within (suc n) (b ∷ part) h bytes =
    let others = past is_other (b ∷ part) in
    each_append LetterIsWithin (first_letters (b ∷ part)) (scanned_in first_letters behind_pair n (behind_pair (b ∷ part)))
    (pair_within (b ∷ part) bytes (none_run others (none_after is_other (b ∷ part) h)))
    (pairs_within n (behind_pair (b ∷ part)) (none_after is_ascii_digit others (none_after is_other (b ∷ part) h))
    (bytes_drop (prefix_len is_ascii_digit others) others (bytes_drop (prefix_len is_other (b ∷ part)) (b ∷ part) bytes)))

upstream_small : (b : ℕ) → is_upstream_byte b ≡ true → b < 2 ^ 128
upstream_small b is = let small : b < 128 = grind (arith, nat_tests) in omega (arith, small)

revision_small : (b : ℕ) → is_revision_byte b ≡ true → b < 2 ^ 128
revision_small b is = let small : b < 128 = grind (arith, nat_tests) in omega (arith, small)

upstream_within : (part : List ℕ) → is_upstream part ≡ true → NonePast part → AllByRecursion LetterIsWithin (letters_of part)
upstream_within part is none = pairs_within (length part) part none (each_by_test (λ b. b < 2 ^ 128) is_upstream_byte part upstream_small (made_of is_upstream_byte part is))

zero_within : AllByRecursion LetterIsWithin (letters_of (48 ∷ []))
zero_within = pairs_within 1 (48 ∷ []) (omega arith, tt) (omega arith, tt)

revision_within : (last : Option (List ℕ)) → is_optional is_revision last ≡ true → NonePast (marked hyphen last) → AllByRecursion LetterIsWithin (letters_of (revision_text last))
revision_within None is none = zero_within
revision_within (Some part) is none = pairs_within (length part) part none.1 (each_by_test (λ b. b < 2 ^ 128) is_revision_byte part revision_small (made_of is_revision_byte part is))

parts_within : (text : List ℕ) (p : Parts) → AreVersionParts p → NonePast (whole p) → IsWithin (version_of text p)
parts_within text p form none =
    let rest = whole_within p form.epoch none in
    (rest.0, upstream_within p.main form.main rest.1, revision_within p.last form.last rest.2)

-- ---- and the other way round

other_no_digit : (b : ℕ) → is_other b ≡ true → is_ascii_digit b ≡ false
other_no_digit b is = not-true (is_ascii_digit b) is

none_pairs : (n : ℕ) (part : List ℕ) → length part ≤ n → AllByRecursion LetterIsWithin (scanned_in first_letters behind_pair n part) → NonePast part
none_pairs zero [] size all = tt
none_pairs zero (b ∷ part) size all = absurd (omega (arith, size))
none_pairs (suc n) [] size all = tt
none_pairs (suc n) (b ∷ part) size all =
    let others = run is_other (b ∷ part) in
    let behind_others = past is_other (b ∷ part) in
    let digits = run is_ascii_digit behind_others in
    let behind = past is_ascii_digit behind_others in
    let letters = first_letters (b ∷ part) in
    let more = scanned_in first_letters behind_pair n behind in
    let number = number_within (b ∷ part) (each_front LetterIsWithin letters more all) in
    let rest = none_pairs n behind (omega (arith, behind_less b part, size)) (each_behind LetterIsWithin letters more all) in
    let front = none_number digits behind (run_all is_ascii_digit behind_others) (past_begins is_ascii_digit behind_others) number rest in
    subst NonePast (sym (run_past is_other (b ∷ part) ∙ ap (λ (t : List ℕ). others ++ t) (run_past is_ascii_digit behind_others)))
    (none_others is_other other_no_digit others (digits ++ behind) (run_all is_other (b ∷ part)) front)

none_part : (part : List ℕ) → AllByRecursion LetterIsWithin (letters_of part) → NonePast part
none_part part all = none_pairs (length part) part (omega arith) all

none_marked : (part : Option (List ℕ)) → AllByRecursion LetterIsWithin (letters_of (revision_text part)) → NonePast (marked hyphen part)
none_marked None all = tt
none_marked (Some part) all = (no_digit hyphen part refl, none_part part all)

parts_none : (text : List ℕ) (p : Parts) → AreVersionParts p → IsWithin (version_of text p) → NonePast (whole p)
parts_none text p form fits = none_whole p form.epoch fits.0 (none_part p.main fits.1) (none_marked p.last fits.2)

-- a version is within the limit exactly where none of its numerals is past it
pub limits_agree : (text : List ℕ) (v : Fields) (at : ℕ) → Spells text v → IsWithin v ↔ (first_past at text ≡ None)
limits_agree = by_parts.limits_agree is_upstream is_revision version_of IsWithin parts_within parts_none
