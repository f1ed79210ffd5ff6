-- What identifiers' texts stand for, and that what an identifier is written as stands for it again.
use Rattle.std.proofs.Common.{◌≡◌, ◌<◌, ℕ, List, [], ◌∷◌, map, Bool, true, not, refl, inl, inr, arith}
use Rattle.std.specs.List.{AllByRecursion, list_all}
use Rattle.std.specs.Char.{is_ascii_digit}
use Rattle.std.proofs.lemmas.Bool.{cases_Bool, and_parts, and_from, not-true}
use Rattle.std.proofs.lemmas.Bool.Decides.{nat_tests}
use Rattle.vx_spec.specs.Numerals.{is_numeral, numeral_text}
use Rattle.vx_spec.specs.Runs.{is_made_of}
use Rattle.vx_spec.proofs.NumeralLaws.{numeral_text_is, value-numeral_text}
use Rattle.vx_spec.proofs.TextLaws.{each_by_test, each_joined, each_part}
use Rattle.vx_scheme.specs.declared.ident.Ident.{Ident}
use Rattle.vx_scheme.specs.declared.ident.Ident.TheVariants.{Number, Word}
use Rattle.vx_spec.specs.Signs.{dot}
use Rattle.vx_order.specs.Dotted.{tail}
use Rattle.vx_order.specs.Identifiers.{identifier_of, identifier_text, is_ident, is_identifier, is_identifier_byte}
use Rattle.vx_order.specs.Laws.Dotted.{made_bytes}

digit_byte : (b : ℕ) → is_ascii_digit b ≡ true → is_identifier_byte b ≡ true
digit_byte b d = rw d refl

digit_bytes : (t : List ℕ) → list_all is_ascii_digit t ≡ true → list_all is_identifier_byte t ≡ true
digit_bytes [] all = refl
digit_bytes (b ∷ t) all = let a = and_parts _ _ all in and_from _ _ (digit_byte b a.0) (digit_bytes t a.1)

-- an identifier's text is written as one that stands for it again
pub again : (i : Ident) → is_ident i ≡ true → (is_identifier (identifier_text i) ≡ true) × (identifier_of (identifier_text i) ≡ i)
again (Number n) is =
    let parts = and_parts _ _ (numeral_text_is n) in
    (and_from _ _ parts.0 (digit_bytes (numeral_text n) parts.1), rw (numeral_text_is n, value-numeral_text n) refl)
again (Word w) is =
    let parts = and_parts (is_identifier w) (not (is_numeral w)) is in
    (parts.0, rw (not-true (is_numeral w) parts.1) refl)

pub all_again : (idents : List Ident) → list_all is_ident idents ≡ true
    → (list_all is_identifier (map identifier_text idents) ≡ true) × (map identifier_of (map identifier_text idents) ≡ idents)
all_again [] all = (refl, refl)
all_again (i ∷ idents) all =
    let a = and_parts _ _ all in
    let first = again i a.0 in
    let rest = all_again idents a.1 in
    (and_from _ _ first.0 rest.0, cc (first.1, rest.1))

-- what a piece stands for is an identifier
formed_ident : (t : List ℕ) → is_identifier t ≡ true → is_ident (identifier_of t) ≡ true
formed_ident t is = elim (cases_Bool (is_numeral t)) [
  | inl number ↦ rw number refl
  | inr word ↦ rw word (and_from (is_identifier t) (not (is_numeral t)) is (rw word refl))
]

pub formed_idents : (ts : List (List ℕ)) → list_all is_identifier ts ≡ true → list_all is_ident (map identifier_of ts) ≡ true
formed_idents [] all = refl
formed_idents (t ∷ ts) all = let a = and_parts _ _ all in and_from _ _ (formed_ident t a.0) (formed_idents ts a.1)

-- ---- their bytes

-- an ASCII byte
abbrev pub IsAsciiByte : ℕ → Type 0
IsAsciiByte b = b < 128

identifier_byte_ascii : (b : ℕ) → is_identifier_byte b ≡ true → b < 128
identifier_byte_ascii b is = grind (arith, nat_tests)

-- texts made of a class of ASCII bytes
pub made_ascii : (test : ℕ → Bool) → ((b : ℕ) → test b ≡ true → b < 128) → (text : List ℕ) → is_made_of test text ≡ true → AllByRecursion IsAsciiByte text
made_ascii test ascii text is = each_by_test IsAsciiByte test text ascii (made_bytes test text is)

pub tail_ascii : (mark : ℕ) → mark < 128 → (xs : List (List ℕ)) → AllByRecursion (AllByRecursion IsAsciiByte) xs → AllByRecursion IsAsciiByte (tail mark xs)
tail_ascii mark small [] all = tt
tail_ascii mark small (x ∷ xs) all = (small, each_joined IsAsciiByte dot (omega arith) (x ∷ xs) all)

-- each byte of identifiers behind their mark is ASCII
pub identifiers_ascii : (mark : ℕ) → mark < 128 → (xs : List (List ℕ)) → list_all is_identifier xs ≡ true → AllByRecursion IsAsciiByte (tail mark xs)
identifiers_ascii mark small xs all = tail_ascii mark small xs (each_part IsAsciiByte is_identifier xs (made_ascii is_identifier_byte identifier_byte_ascii) all)
