-- The tokens of a text as the program holds them.
use Rattle.std.specs.Prelude.{◌≡◌, true}
use Rattle.std.specs.Char.{is_ascii_digit}
use Rattle.std.specs.List.{list_all}
use Rattle.vx_text.specs.Folding.{lowered}
use Rattle.vx_order.specs.declared.letter.Letter.{Letter}
use Rattle.maven_scheme.specs.Tokens.{is_word_byte}
use Rattle.maven_scheme.specs.Letters.{full_name, number_letter, qualifier_letter}
use Rattle.maven_scheme.specs.declared.tokens.Token.{Token}
use Rattle.maven_scheme.specs.declared.tokens.Token.TheVariants.{Number, Qualifier}

-- the letter of a token
abbrev pub token_letter : Token → Letter
token_letter (Number digits is_dotted) = number_letter is_dotted digits.now
token_letter (Qualifier word before_digit) = qualifier_letter (full_name before_digit (lowered word.now))

-- a token is made of what its name says
abbrev pub IsToken : Token → Type 0
IsToken (Number digits is_dotted) = list_all is_ascii_digit digits.now ≡ true
IsToken (Qualifier word before_digit) = list_all is_word_byte word.now ≡ true
