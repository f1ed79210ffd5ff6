-- What `escaped` writes: it is the library's encoding, it lacks the signs that are escaped, and reading it gives the text back.
use Rattle.std.proofs.Common.{◌≡◌, ◌≢◌, ◌<◌, ◌+◌, ◌/◌, ◌%◌, true≢false, ℕ, zero, suc, ◌++◌, List, [], ◌∷◌, Bool, true, false, refl, sym, ap, ◌∙◌, arith, All, Err, IsUtf8, ⊎_elim, inl, inr, subst, append_assoc}
use Rattle.std.specs.Prelude.{not, ◌⊎◌}
use Rattle.std.specs.List.{AllByRecursion}
use Rattle.std.proofs.lemmas.Bool.{agree_below, agree_below_at, cases_Bool, cases_lt}
use Rattle.std.proofs.lemmas.Bool.Decides.{nat_tests}
use Rattle.std.specs.Char.{is_digit}
use Rattle.std.specs.Fmt.{digit_glyph}
use Rattle.std.proofs.lemmas.List.Elements.{All-head, All-tail}
use Rattle.percent_encoding.specs.AsciiSet.{should_percent_encode}
use Rattle.percent_encoding.specs.Percent.{percent_decode, percent_encode, percent_encode_byte}
use Rattle.percent_encoding.proofs.PercentLemmas.{IsByte, percent_encode-nil, percent_encode_escaped, percent_encode_kept, round_trip}
use Rattle.vx_spec.specs.Marks.{Lacks}
use Rattle.vx_text.specs.Escapes.{IsBroken, IsFirstBroken, IsFollowed, IsUndone, IsUnescapedAs, IsWhole, escaped, escaped_byte, is_left, unescaped}
use Rattle.vx_text.specs.declared.escapes.TheConstants.{ESCAPED}
use Rattle.vx_text.specs.declared.escapes.EscapeFault.{EscapeFault}
use Rattle.vx_text.specs.declared.escapes.EscapeFault.TheVariants.{BadEscape, NotText, NoMemory}

set_agrees : agree_below (should_percent_encode ESCAPED) (λ b. not (is_left b)) 256 ≡ true
unfolding should_percent_encode
set_agrees = refl

set-says : (b : ℕ) → b < 256 → should_percent_encode ESCAPED b ≡ not (is_left b)
set-says b small = agree_below_at (should_percent_encode ESCAPED) (λ b. not (is_left b)) 256 b set_agrees small

not-flip : (x : Bool) → not x ≡ true → x ≡ false
not-flip true e = sym e
not-flip false e = refl

not-flip-false : (x : Bool) → not x ≡ false → x ≡ true
not-flip-false true e = refl
not-flip-false false e = sym e

-- the library's encoding of the set is `escaped`
pub escaped-is : (bs : List ℕ) → All IsByte bs → percent_encode ESCAPED bs ≡ escaped bs
unfolding escaped
escaped-is [] small = percent_encode-nil ESCAPED
escaped-is (b ∷ bs) small =
    let rest = escaped-is bs (All-tail IsByte b bs small) in
    let says = set-says b (All-head IsByte b bs small) in
    elim (cases_Bool (should_percent_encode ESCAPED b)) [
      | inl out ↦
          let other : is_left b ≡ false = not-flip (is_left b) (sym says ∙ out) in
          percent_encode_escaped ESCAPED b bs out ∙ rw other (ap (λ l. percent_encode_byte b ++ l) rest)
      | inr kept ↦
          let left : is_left b ≡ true = not-flip-false (is_left b) (sym says ∙ kept) in
          percent_encode_kept ESCAPED b bs kept ∙ rw left (ap (λ l. b ∷ l) rest)
    ]

pub unescaped-escaped : (bs : List ℕ) → All IsByte bs → unescaped (escaped bs) ≡ bs
unescaped-escaped bs small = ap percent_decode (sym (escaped-is bs small)) ∙ round_trip ESCAPED bs refl small

-- two texts of bytes that are escaped alike are one
pub escaped_once : (a b : List ℕ) → All IsByte a → All IsByte b → escaped a ≡ escaped b → a ≡ b
escaped_once a b p q e = sym (unescaped-escaped a p) ∙ ap percent_decode e ∙ unescaped-escaped b q

-- ---- piece by piece

pub escaped-nil : escaped [] ≡ []
unfolding escaped
escaped-nil = refl

pub escaped-cons : (b : ℕ) (bs : List ℕ) → escaped (b ∷ bs) ≡ escaped_byte b ++ escaped bs
unfolding escaped
escaped-cons b bs = refl

pub escaped-append : (a b : List ℕ) → escaped (a ++ b) ≡ escaped a ++ escaped b
unfolding escaped
escaped-append [] b = refl
escaped-append (x ∷ a) b = ap (λ l. escaped_byte x ++ l) (escaped-append a b) ∙ sym (append_assoc (escaped_byte x) (escaped a) (escaped b))

-- bytes that are left stand for themselves
pub escaped_left : (bs : List ℕ) → AllByRecursion (λ b. is_left b ≡ true) bs → escaped bs ≡ bs
unfolding escaped
escaped_left [] left = refl
escaped_left (b ∷ bs) left = rw (left.0) (ap (λ l. b ∷ l) (escaped_left bs left.1))

-- what is not empty is written as what is not empty
pub escaped_some : (text : List ℕ) → text ≢ [] → escaped text ≢ []
unfolding escaped percent_encode_byte
escaped_some [] some e = some refl
escaped_some (b ∷ text) some e = elim (cases_Bool (is_left b)) [
  | inl left ↦ let f = rw left at e in cc (f)
  | inr out ↦ let f = rw out at e in cc (f)
]

-- ---- the signs that an escaped text lacks

glyph_left : (d : ℕ) → d < 16 → is_left (digit_glyph true d) ≡ true
glyph_left d small = grind (arith, nat_tests)

not_left : (b c : ℕ) → is_left c ≡ false → is_left b ≡ true → b ≢ c
not_left b c out is e = true≢false (sym is ∙ ap is_left e ∙ out)

byte_lacks : (b c : ℕ) (rest : List ℕ) → is_left c ≡ false → 37 ≢ c → Lacks c rest → Lacks c (percent_encode_byte b ++ rest)
unfolding percent_encode_byte
byte_lacks b c rest out other after =
    (other, (not_left _ c out (glyph_left (b / 16 % 16) (omega arith)), (not_left _ c out (glyph_left (b % 16) (omega arith)), after)))

-- an escaped text lacks each byte that is escaped, but `%`
pub escaped_lacks : (c : ℕ) (text : List ℕ) → is_left c ≡ false → 37 ≢ c → Lacks c (escaped text)
unfolding escaped
escaped_lacks c [] out other = tt
escaped_lacks c (b ∷ text) out other = elim (cases_Bool (is_left b)) [
  | inl left ↦ rw left (not_left b c out left, escaped_lacks c text out other)
  | inr escapes ↦ rw escapes (byte_lacks b c (escaped text) out other (escaped_lacks c text out other))
]

-- each byte of an escaped text is `%` or one that is left, so it is ASCII
pub escaped_ascii : (text : List ℕ) → AllByRecursion (λ b. (b ≡ 37) ⊎ (is_left b ≡ true)) (escaped text)
unfolding escaped percent_encode_byte
escaped_ascii [] = tt
escaped_ascii (b ∷ text) = elim (cases_Bool (is_left b)) [
  | inl left ↦ rw left (inr left, escaped_ascii text)
  | inr out ↦ rw out (inl refl, (inr (glyph_left (b / 16 % 16) (omega arith)), (inr (glyph_left (b % 16) (omega arith)), escaped_ascii text)))
]

-- ---- broken escapes

-- what follows stays the same behind one byte more
followed-behind : (b : ℕ) (rest : List ℕ) (j : ℕ) → IsFollowed rest j → IsFollowed (b ∷ rest) (suc j)
followed-behind b rest j f =
    let one : suc j + 1 ≡ suc (j + 1) = omega arith in
    let two : suc j + 2 ≡ suc (j + 2) = omega arith in
    (omega (arith, f.0), rw one f.1, rw two f.2)

broken-behind : (b : ℕ) (rest : List ℕ) (j : ℕ) → IsBroken (b ∷ rest) (suc j) → IsBroken rest j
broken-behind b rest j h = (omega (arith, h.0), h.1, λ f. h.2 (followed-behind b rest j f))

whole-cons : (b : ℕ) (rest : List ℕ) → ¬ (IsBroken (b ∷ rest) 0) → IsWhole rest → IsWhole (b ∷ rest)
whole-cons b rest here after zero within broken = here broken
whole-cons b rest here after (suc j) within broken = after j (omega (arith, within)) (broken-behind b rest j broken)

whole-other : (b : ℕ) (rest : List ℕ) → b ≢ 37 → IsWhole rest → IsWhole (b ∷ rest)
whole-other b rest other = whole-cons b rest (λ broken. other broken.1)

whole-nil : IsWhole []
whole-nil i within broken = absurd (omega (arith, within))

glyph-digit : (d : ℕ) → d < 16 → is_digit (digit_glyph true d) 16 ≡ true
glyph-digit d small = grind (arith, nat_tests)

glyph-other : (d : ℕ) → d < 16 → digit_glyph true d ≢ 37
glyph-other d small = grind (arith, nat_tests)

whole-escape : (b : ℕ) (rest : List ℕ) → IsWhole rest → IsWhole (percent_encode_byte b ++ rest)
unfolding percent_encode_byte
whole-escape b rest after =
    let high = digit_glyph true (b / 16 % 16) in
    let low = digit_glyph true (b % 16) in
    let fits_high : b / 16 % 16 < 16 = omega arith in
    let fits_low : b % 16 < 16 = omega arith in
    let follows : IsFollowed (37 ∷ high ∷ low ∷ rest) 0 = (omega arith, glyph-digit (b / 16 % 16) fits_high, glyph-digit (b % 16) fits_low) in
    whole-cons 37 (high ∷ low ∷ rest) (λ broken. broken.2 follows)
    (whole-other high (low ∷ rest) (glyph-other (b / 16 % 16) fits_high) (whole-other low rest (glyph-other (b % 16) fits_low) after))

-- an escaped text has no broken `%`
pub escaped-whole : (bs : List ℕ) → IsWhole (escaped bs)
unfolding escaped
escaped-whole [] = whole-nil
escaped-whole (b ∷ bs) = elim (cases_Bool (is_left b)) [
  | inl left ↦
      let other : b ≢ 37 = λ percent. true≢false (sym left ∙ ap is_left percent) in
      rw left (whole-other b (escaped bs) other (escaped-whole bs))
  | inr out ↦ rw out (whole-escape b (escaped bs) (escaped-whole bs))
]

-- a text has one first broken `%`
pub one_first_broken : (text : List ℕ) (i j : ℕ) → IsFirstBroken text i → IsFirstBroken text j → i ≡ j
one_first_broken text i j p q = ⊎_elim
    (λ less. absurd (q.1 i less p.0))
    (λ not_less. ⊎_elim (λ less. absurd (p.1 j less q.0)) (λ other. omega (arith, not_less, other)) (cases_lt j i))
    (cases_lt i j)

-- a broken `%` stands in no whole text
pub not_whole : (text : List ℕ) (at : ℕ) → IsFirstBroken text at → ¬ (IsWhole text)
not_whole text at first whole = whole at first.0.0 first.0

-- what a text of bytes in UTF-8 is written as is read as that text
pub undone : (text : List ℕ) → All IsByte text → IsUtf8 text → IsUndone text
undone text small good =
    let back = unescaped-escaped text small in
    let reads = subst IsUtf8 (sym back) good in
    record {
      given_back = (escaped-whole text, reads, sym back);
      only_memory = only text reads;
    }
  where
    only : (t : List ℕ) → IsUtf8 (unescaped (escaped t)) → (fault : EscapeFault) → IsUnescapedAs (escaped t) (Err fault) → fault ≡ NoMemory
    only t reads (BadEscape at) first = absurd (not_whole (escaped t) at first (escaped-whole t))
    only t reads NotText denied = absurd (denied.1 reads)
    only t reads NoMemory denied = refl
