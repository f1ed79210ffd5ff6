-- The tokens of a text, one by one, and their letters.
use Rattle.std.proofs.Common.{◌≡◌, ◌≢◌, ◌≤◌, ◌<◌, if◌then◌else◌, ℕ, zero, suc, Bool, true, false, List, [], ◌∷◌, length, refl, sym, ap, ◌∙◌, subst, inl, inr, arith}
use Rattle.std.specs.List.{list_all}
use Rattle.std.specs.Char.{is_ascii_digit}
use Rattle.std.specs.Str.{IsUtf8}
use Rattle.std.proofs.lemmas.Bool.{cases_Bool}
use Rattle.std.proofs.lemmas.Bool.Decides.{nat_tests}
use Rattle.vx_spec.specs.Runs.{begins, run, past}
use Rattle.vx_spec.proofs.RunLaws.{run_step, run_stays, past_less, past_most}
use Rattle.vx_spec.proofs.TextLaws.{each_by_test, utf8_by_each}
use Rattle.vx_text.specs.Folding.{lowered}
use Rattle.vx_order.specs.declared.letter.Letter.{Letter}
use Rattle.maven_scheme.specs.Tokens.{Token, is_word_byte, is_separator, front_bytes, behind_front, front_token, past_separator, next_token, behind_next, tokens_in, tokens_behind}
use Rattle.maven_scheme.specs.Letters.{letter_of, full_name, number_letter, qualifier_letter}

-- ---- the letter of a token

pub no_word : (b : ℕ) → is_ascii_digit b ≡ true → is_word_byte b ≡ false
no_word b is = grind (arith, nat_tests)

front_digits : (text : List ℕ) → begins is_ascii_digit text ≡ true → front_bytes text ≡ run is_ascii_digit text
front_digits text is = rw is refl

front_word : (text : List ℕ) → begins is_ascii_digit text ≡ false → front_bytes text ≡ run is_word_byte text
front_word text other = rw other refl

-- the letter of a token with these bytes
abbrev letter_by : Bool → Token → List ℕ → Letter
letter_by is_word token bytes = if is_word then qualifier_letter (full_name token.before_digit (lowered bytes)) else number_letter token.is_dotted bytes

of_number : (token : Token) (bytes : List ℕ) → token.text ≡ bytes → begins is_word_byte bytes ≡ false → letter_of token ≡ number_letter token.is_dotted bytes
of_number token bytes e other = ap (λ (t : List ℕ). letter_by (begins is_word_byte t) token t) e ∙ ap (λ b. letter_by b token bytes) other

of_word : (token : Token) (bytes : List ℕ) → token.text ≡ bytes → begins is_word_byte bytes ≡ true → letter_of token ≡ qualifier_letter (full_name token.before_digit (lowered bytes))
of_word token bytes e is = ap (λ (t : List ℕ). letter_by (begins is_word_byte t) token t) e ∙ ap (λ b. letter_by b token bytes) is

no_word_run : (text : List ℕ) → begins is_ascii_digit text ≡ true → begins is_word_byte (run is_ascii_digit text) ≡ false
no_word_run [] is = cc is
no_word_run (b ∷ text) is = ap (begins is_word_byte) (run_step is_ascii_digit b text is) ∙ no_word b is

pub digits_letter : (is_dotted : Bool) (text : List ℕ) → begins is_ascii_digit text ≡ true → letter_of (front_token is_dotted text) ≡ number_letter is_dotted (run is_ascii_digit text)
digits_letter is_dotted text is = of_number (front_token is_dotted text) (run is_ascii_digit text) (front_digits text is) (no_word_run text is)

begun : (test : ℕ → Bool) (text : List ℕ) → run test text ≢ [] → begins test (run test text) ≡ true
begun test [] some = absurd (some refl)
begun test (b ∷ text) some = elim (cases_Bool (test b)) [
  | inl is ↦ ap (begins test) (run_step test b text is) ∙ is
  | inr other ↦ absurd (some (run_stays test b text other))
]

-- what stands behind it
pub behind_digits : (text : List ℕ) → begins is_ascii_digit text ≡ true → behind_front text ≡ past is_ascii_digit text
behind_digits text is = rw is refl

pub behind_word : (text : List ℕ) → begins is_ascii_digit text ≡ false → behind_front text ≡ past is_word_byte text
behind_word text fails = rw fails refl

pub word_letter : (is_dotted : Bool) (text : List ℕ) → begins is_ascii_digit text ≡ false → run is_word_byte text ≢ []
    → letter_of (front_token is_dotted text) ≡ qualifier_letter (full_name (begins is_ascii_digit (past is_word_byte text)) (lowered (run is_word_byte text)))
word_letter is_dotted text other some =
    of_word (front_token is_dotted text) (run is_word_byte text) (front_word text other) (begun is_word_byte text some)
    ∙ ap (λ (t : List ℕ). qualifier_letter (full_name (begins is_ascii_digit t) (lowered (run is_word_byte text)))) (behind_word text other)

pub empty_letter : (is_dotted : Bool) (text : List ℕ) → begins is_ascii_digit text ≡ false → run is_word_byte text ≡ [] → letter_of (front_token is_dotted text) ≡ number_letter is_dotted []
empty_letter is_dotted text other none = of_number (front_token is_dotted text) [] (front_word text other ∙ none) refl

-- ---- tokens take bytes off

behind_most : (text : List ℕ) → length (behind_front text) ≤ length text
behind_most text = elim (cases_Bool (begins is_ascii_digit text)) [
  | inl is ↦ omega (arith, ap length (behind_digits text is), past_most is_ascii_digit text)
  | inr fails ↦ omega (arith, ap length (behind_word text fails), past_most is_word_byte text)
]

is_word : (b : ℕ) → is_separator b ≡ false → is_ascii_digit b ≡ false → is_word_byte b ≡ true
is_word b fails other = elim (cases_Bool (is_word_byte b)) [
  | inl holds ↦ holds
  | inr neither ↦ cc (rw (other, neither) at fails)
]

behind_less : (b : ℕ) (text : List ℕ) → is_separator b ≡ false → length (behind_front (b ∷ text)) ≤ length text
behind_less b text fails = elim (cases_Bool (is_ascii_digit b)) [
  | inl digit ↦ omega (arith, ap length (behind_digits (b ∷ text) digit), past_less is_ascii_digit b text digit)
  | inr other ↦ omega (arith, ap length (behind_word (b ∷ text) other), past_less is_word_byte b text (is_word b fails other))
]

pub past_sign : (b : ℕ) (rest : List ℕ) → is_separator b ≡ true → past_separator (b ∷ rest) ≡ rest
past_sign b rest holds = rw holds refl

pub past_none : (b : ℕ) (rest : List ℕ) → is_separator b ≡ false → past_separator (b ∷ rest) ≡ b ∷ rest
past_none b rest fails = rw fails refl

-- a token takes one byte off at least
pub next_less : (b : ℕ) (rest : List ℕ) → length (behind_next (b ∷ rest)) ≤ length rest
next_less b rest = elim (cases_Bool (is_separator b)) [
  | inl holds ↦ subst (λ (t : List ℕ). length (behind_front t) ≤ length rest) (sym (past_sign b rest holds)) (behind_most rest)
  | inr fails ↦ subst (λ (t : List ℕ). length (behind_front t) ≤ length rest) (sym (past_none b rest fails)) (behind_less b rest fails)
]

pub behind_shorter : (rest : List ℕ) → rest ≢ [] → length (behind_next rest) < length rest
behind_shorter [] some = absurd (some refl)
behind_shorter (b ∷ rest) some = omega (arith, next_less b rest)

-- there are no more tokens than bytes
enough : (n m : ℕ) (rest : List ℕ) → length rest ≤ n → length rest ≤ m → tokens_in n rest ≡ tokens_in m rest
enough zero zero rest p q = refl
enough zero (suc m) [] p q = refl
enough zero (suc m) (b ∷ rest) p q = absurd (omega (arith, p))
enough (suc n) zero [] p q = refl
enough (suc n) zero (b ∷ rest) p q = absurd (omega (arith, q))
enough (suc n) (suc m) [] p q = refl
enough (suc n) (suc m) (b ∷ rest) p q =
    let less = next_less b rest in
    ap (λ (tokens : List Token). next_token (b ∷ rest) ∷ tokens) (enough n m (behind_next (b ∷ rest)) (omega (arith, less, p)) (omega (arith, less, q)))

-- the next token, then those behind it
pub tokens_step : (rest : List ℕ) → rest ≢ [] → tokens_behind rest ≡ next_token rest ∷ tokens_behind (behind_next rest)
tokens_step [] some = absurd (some refl)
tokens_step (b ∷ rest) some =
    ap (λ (tokens : List Token). next_token (b ∷ rest) ∷ tokens)
    (enough (length rest) (length (behind_next (b ∷ rest))) (behind_next (b ∷ rest)) (next_less b rest) (omega arith))

word_small : (b : ℕ) → is_word_byte b ≡ true → b < 128
word_small b is = grind (arith, nat_tests)

-- a word is UTF-8
pub word_utf8 : (text : List ℕ) → list_all is_word_byte text ≡ true → IsUtf8 text
word_utf8 text all = utf8_by_each text (each_by_test (λ b. b < 128) is_word_byte text word_small all)
