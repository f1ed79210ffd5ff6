-- Identifiers as Semantic Versioning 2.0, item 10, has them, leading zeros accepted: which texts are identifiers, and what
-- they stand for (item 11: digits alone are a number), with numbers of any size; and the limit of numerals, which is this
-- project's own.
use Rattle.std.specs.Prelude.{◌==◌, ◌&&◌, ◌||◌, ◌^◌, ◌<◌, not, ℕ, Bool, true, List, if◌then◌else◌}
use Rattle.std.specs.Char.{is_ascii_alphanumeric}
use Rattle.vx_spec.specs.Numerals.{is_numeral, numeral_text, value}
use Rattle.vx_spec.specs.Runs.{is_made_of}
use Rattle.vx_scheme.specs.declared.ident.Ident.{Ident}
use Rattle.vx_scheme.specs.declared.ident.Ident.TheVariants.{Number, Word}
use Rattle.vx_spec.specs.Signs.{hyphen}

-- identifiers hold only ASCII letters, digits and '-'
abbrev pub is_identifier_byte : ℕ → Bool
is_identifier_byte b = is_ascii_alphanumeric b || (b == hyphen)

-- the text of an identifier: one such byte or more
abbrev pub is_identifier : List ℕ → Bool
is_identifier text = is_made_of is_identifier_byte text

-- a numeric identifier is any number; any other is an identifier that is not digits alone
abbrev pub is_ident : Ident → Bool
is_ident (Number n) = true
is_ident (Word w) = is_identifier w && not (is_numeral w)

-- an identifier's number is within the limit of 128 bits
abbrev pub IdentIsWithin : Ident → Type 0
IdentIsWithin (Number n) = n < 2 ^ 128
IdentIsWithin (Word w) = Unit {0}

-- digits alone stand for their number, and any other identifier for itself
abbrev pub identifier_of : List ℕ → Ident
identifier_of text = if is_numeral text then Number (value text) else Word text

-- a number's numeral without leading zeros, and a word as it stands
abbrev pub identifier_text : Ident → List ℕ
identifier_text (Number n) = numeral_text n
identifier_text (Word w) = w
