-- The letters so far, with those of the tokens that are left, count as those of the text.
use Rattle.std.proofs.Common.{◌≡◌, ◌++◌, length, map, true}
use Rattle.std.specs.List.{AllByRecursion}
use Rattle.vx_order.specs.Letters.{LetterIsWithin}
use Rattle.maven_scheme.specs.Tokens.{tokens_behind}
use Rattle.maven_scheme.specs.Letters.{without_nulls, letter_of, letters_of}
use Rattle.maven_scheme.specs.Steps.Nulls.{is_tidy}
use Rattle.maven_scheme.proofs.letters.letters.Given as goal

abbrev pub invariant-tokens : goal.invariant-tokens
invariant-tokens l = (without_nulls (l.letters ++ map letter_of (tokens_behind l.rest)) ≡ letters_of l.text) × (is_tidy l.letters ≡ true) × AllByRecursion LetterIsWithin l.letters

abbrev pub decreases-tokens : goal.decreases-tokens
decreases-tokens l = length l.rest
