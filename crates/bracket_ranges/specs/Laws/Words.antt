-- Words hold no blank, no comma and no closing sign, and are told by that in what is printed.
use Rattle.std.proofs.Common.{◌≡◌, ◌||◌, ◌-◌, not, ℕ, Bool, true, false, List, [], ◌∷◌, ◌++◌, length, take, refl, ap, ◌∙◌, arith}
use Rattle.std.specs.List.{list_all, suffix_len}
use Rattle.std.proofs.lemmas.Bool.{and_parts, and_from}
use Rattle.std.proofs.lemmas.List.{reverse-append}
use Rattle.vx_spec.specs.Marks.{Lacks}
use Rattle.vx_spec.specs.Runs.{is_blank, begins, past, without_end, trimmed}
use Rattle.vx_spec.proofs.RunLaws.{past_stays}
use Rattle.vx_spec.proofs.EndLaws.{lacks_by}
use Rattle.bracket_ranges.specs.Signs.{is_opening, is_closing, is_comma}
use Rattle.bracket_ranges.specs.Words.{is_word_byte}
use Rattle.bracket_ranges.specs.Steps.Parts.{is_unclosed}

none_of : (a b c d : Bool) → not ((a || b) || (c || d)) ≡ true → (a ≡ false) × (b ≡ false) × (c ≡ false) × (d ≡ false)
none_of false false false false e = (refl, refl, refl, refl)
none_of true b c d e = cc e
none_of false true c d e = cc e
none_of false false true d e = cc e
none_of false false false true e = cc e

pub word_solid : (b : ℕ) → is_word_byte b ≡ true → is_blank b ≡ false
word_solid b word = (none_of (is_blank b) (is_comma b) (is_opening b) (is_closing b) word).0

word_unclosed : (b : ℕ) → is_word_byte b ≡ true → is_unclosed b ≡ true
word_unclosed b word = ap not (none_of (is_blank b) (is_comma b) (is_opening b) (is_closing b) word).3

all_unclosed : (text : List ℕ) → list_all is_word_byte text ≡ true → list_all is_unclosed text ≡ true
all_unclosed [] all = refl
all_unclosed (b ∷ text) all =
    let a = and_parts (is_word_byte b) (list_all is_word_byte text) all in
    and_from (is_unclosed b) (list_all is_unclosed text) (word_unclosed b a.0) (all_unclosed text a.1)

pub word_closes_none : (text : List ℕ) → list_all is_word_byte text ≡ true → list_all is_unclosed text ≡ true
word_closes_none text all = all_unclosed text all

pub word_lacks_comma : (text : List ℕ) → list_all is_word_byte text ≡ true → Lacks 44 text
word_lacks_comma text all = lacks_by is_word_byte 44 refl text all

-- ---- no blank stands at the ends

take_all : (text : List ℕ) → take (length text) text ≡ text
take_all [] = refl
take_all (b ∷ text) = ap (λ (t : List ℕ). b ∷ t) (take_all text)

last_solid : (xs : List ℕ) (b : ℕ) → is_blank b ≡ false → suffix_len is_blank (xs ++ b ∷ []) ≡ 0
last_solid xs b solid = rw (reverse-append xs (b ∷ []), solid) refl

past_solid : (text : List ℕ) → begins is_blank text ≡ false → past is_blank text ≡ text
past_solid [] first = refl
past_solid (b ∷ text) first = past_stays is_blank b text first

kept : (text : List ℕ) → suffix_len is_blank text ≡ 0 → without_end is_blank text ≡ text
kept text none = rw none (let size : length text - 0 ≡ length text = omega arith in rw size (take_all text))

pub behind_blanks : (text : List ℕ) → begins is_blank text ≡ false → past is_blank text ≡ text
behind_blanks text first = past_solid text first

-- a text that ends with a byte that is no blank, and begins with one
pub trimmed_tight : (text front : List ℕ) (b : ℕ) → text ≡ front ++ b ∷ [] → is_blank b ≡ false → begins is_blank text ≡ false → trimmed text ≡ text
trimmed_tight text front b ends solid first =
    ap (without_end is_blank) (past_solid text first) ∙ kept text (ap (suffix_len is_blank) ends ∙ last_solid front b solid)

-- a word has no blank at its ends
last_of : (b : ℕ) (text : List ℕ) → list_all is_word_byte (b ∷ text) ≡ true → (front : List ℕ) × (last : ℕ) × (b ∷ text ≡ front ++ last ∷ []) × (is_blank last ≡ false)
last_of b [] all = ([], b, refl, word_solid b (and_parts (is_word_byte b) true all).0)
last_of b (d ∷ text) all =
    let rest = last_of d text (and_parts (is_word_byte b) (list_all is_word_byte (d ∷ text)) all).1 in
    (b ∷ rest.0, rest.1, ap (λ (t : List ℕ). b ∷ t) rest.2, rest.3)

pub word_trimmed : (text : List ℕ) → list_all is_word_byte text ≡ true → trimmed text ≡ text
word_trimmed [] all = refl
word_trimmed (b ∷ text) all =
    let last = last_of b text all in
    trimmed_tight (b ∷ text) last.0 last.1 last.2 last.3 (word_solid b (and_parts (is_word_byte b) (list_all is_word_byte text) all).0)
