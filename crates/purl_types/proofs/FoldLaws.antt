-- Folding keeps the form of a package URL, and folds once.
use Rattle.std.proofs.Common.{◌≡◌, ◌≢◌, ◌<◌, ◌≤◌, ◌&&◌, ℕ, Bool, true, not, eqb, List, [], ◌∷◌, map, refl, sym, ap, ◌∙◌, subst, arith}
use Rattle.std.specs.List.{AllByRecursion, list_all}
use Rattle.std.specs.Char.{is_ascii_uppercase, to_ascii_lowercase}
use Rattle.std.specs.Str.{IsUtf8}
use Rattle.std.proofs.lemmas.Bool.{and_parts}
use Rattle.std.proofs.lemmas.Bool.Decides.{nat_tests}
use Rattle.std.proofs.lemmas.Str.Ascii.{lowercase-lowercase}
use Rattle.vx_text.specs.Folding.{lowered}
use Rattle.purl_core.specs.Value.{IsPart, IsValid, Package}
use Rattle.purl_types.specs.Folding.{dash, fold_text, folded_purl}
use Rattle.purl_types.specs.Table.{row_of}
use Rattle.purl_types.specs.declared.table.Folding.{Folding}
use Rattle.purl_types.specs.declared.table.Folding.TheVariants.{Kept, Lowered, Dashed}
use Rattle.purl_types.proofs.Letters.{dashed_byte, dashed_is}
use Rattle.purl_types.proofs.Utf8.{utf8_mapped}

-- ---- a part folded is a part

low_small : (b : ℕ) → b < 128 → to_ascii_lowercase b < 128
low_small b small = grind (arith, nat_tests)

low_past : (b : ℕ) → 128 ≤ b → to_ascii_lowercase b ≡ b
low_past b past = grind (arith, nat_tests)

low_byte : (b : ℕ) → b < 256 → to_ascii_lowercase b < 256
low_byte b small = grind (arith, nat_tests)

dashed_small : (b : ℕ) → b < 128 → dashed_byte b < 128
dashed_small b small = grind (arith, nat_tests)

dashed_past : (b : ℕ) → 128 ≤ b → dashed_byte b ≡ b
dashed_past b past = grind (arith, nat_tests)

dashed_below : (b : ℕ) → b < 256 → dashed_byte b < 256
dashed_below b small = grind (arith, nat_tests)

module _ (f : ℕ → ℕ) (low : (b : ℕ) → b < 128 → f b < 128) (high : (b : ℕ) → 128 ≤ b → f b ≡ b) (below : (b : ℕ) → b < 256 → f b < 256) where
  bytes_mapped : (text : List ℕ) → AllByRecursion (λ b. b < 256) text → AllByRecursion (λ b. b < 256) (map f text)
  bytes_mapped [] all = tt
  bytes_mapped (b ∷ text) all = (below b all.0, bytes_mapped text all.1)

  some_mapped : (text : List ℕ) → text ≢ [] → map f text ≢ []
  some_mapped [] some e = some e
  some_mapped (b ∷ text) some e = cc e

  part_mapped : (text : List ℕ) → IsPart text → IsPart (map f text)
  part_mapped text part = record { some = some_mapped text part.some; utf8 = utf8_mapped f low high text part.utf8; bytes = bytes_mapped text part.bytes }

part_dashed : (text : List ℕ) → IsPart text → IsPart (map dash (lowered text))
part_dashed text part = subst IsPart (sym (dashed_is text)) (part_mapped dashed_byte dashed_small dashed_past dashed_below text part)

-- a text that is dashed is a text
pub dashed_utf8 : (text : List ℕ) → IsUtf8 text → IsUtf8 (map dashed_byte text)
dashed_utf8 text utf8 = utf8_mapped dashed_byte dashed_small dashed_past text utf8

pub part_folded : (folding : Folding) (text : List ℕ) → IsPart text → IsPart (fold_text folding text)
part_folded Kept text part = part
part_folded Lowered text part = part_mapped to_ascii_lowercase low_small low_past low_byte text part
part_folded Dashed text part = part_dashed text part

pub parts_folded : (folding : Folding) (texts : List (List ℕ)) → AllByRecursion IsPart texts → AllByRecursion IsPart (map (fold_text folding) texts)
parts_folded folding [] all = tt
parts_folded folding (text ∷ texts) all = (part_folded folding text all.0, parts_folded folding texts all.1)

pub valid_folded : (p : Package) → IsValid p → IsValid (folded_purl p)
valid_folded p valid = record {
  kind = valid.kind;
  kind_low = valid.kind_low;
  namespace = parts_folded (row_of p.kind).namespace p.namespace valid.namespace;
  name = part_folded (row_of p.kind).name p.name valid.name;
  version = valid.version;
  pairs = valid.pairs;
  ascending = valid.ascending;
  subpath = valid.subpath;
}

-- ---- folded once

low_low : (text : List ℕ) → lowered (lowered text) ≡ lowered text
low_low [] = refl
low_low (b ∷ text) = cc (lowercase-lowercase b, low_low text)

dashed_dashed : (b : ℕ) → dashed_byte (dashed_byte b) ≡ dashed_byte b
dashed_dashed b = grind (arith, nat_tests)

all_dashed : (text : List ℕ) → map dashed_byte (map dashed_byte text) ≡ map dashed_byte text
all_dashed [] = refl
all_dashed (b ∷ text) = cc (dashed_dashed b, all_dashed text)

text_once : (folding : Folding) (text : List ℕ) → fold_text folding (fold_text folding text) ≡ fold_text folding text
text_once Kept text = refl
text_once Lowered text = low_low text
text_once Dashed text = dashed_is (map dash (lowered text)) ∙ ap (map dashed_byte) (dashed_is text) ∙ all_dashed text ∙ sym (dashed_is text)

texts_once : (folding : Folding) (texts : List (List ℕ)) → map (fold_text folding) (map (fold_text folding) texts) ≡ map (fold_text folding) texts
texts_once folding [] = refl
texts_once folding (text ∷ texts) = cc (text_once folding text, texts_once folding texts)

pub folded_once : (p : Package) → folded_purl (folded_purl p) ≡ folded_purl p
folded_once p = cc (texts_once (row_of p.kind).namespace p.namespace, text_once (row_of p.kind).name p.name)

-- ---- what stays

low_kept : (b : ℕ) → not (is_ascii_uppercase b) ≡ true → to_ascii_lowercase b ≡ b
low_kept b is = grind (arith, nat_tests)

dashed_kept : (b : ℕ) → (not (is_ascii_uppercase b) && not (eqb b 95)) ≡ true → dashed_byte b ≡ b
dashed_kept b is = let a = and_parts (not (is_ascii_uppercase b)) (not (eqb b 95)) is in grind (arith, nat_tests)

kept_by : (f : ℕ → ℕ) (test : ℕ → Bool) → ((b : ℕ) → test b ≡ true → f b ≡ b) → (text : List ℕ) → list_all test text ≡ true → map f text ≡ text
kept_by f test each [] all = refl
kept_by f test each (b ∷ text) all = let a = and_parts _ _ all in cc (each b a.0, kept_by f test each text a.1)

pub text_low : (text : List ℕ) → list_all (λ b. not (is_ascii_uppercase b)) text ≡ true → lowered text ≡ text
text_low = kept_by to_ascii_lowercase (λ b. not (is_ascii_uppercase b)) low_kept

pub text_dashed : (text : List ℕ) → list_all (λ b. not (is_ascii_uppercase b) && not (eqb b 95)) text ≡ true → map dash (lowered text) ≡ text
text_dashed text all = dashed_is text ∙ kept_by dashed_byte (λ b. not (is_ascii_uppercase b) && not (eqb b 95)) dashed_kept text all
