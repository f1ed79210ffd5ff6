use Rattle.std.proofs.Common.{rules, arith, ◌≡◌, ◌≢◌, ◌<◌, ◌++◌, ℕ, List, [], ◌∷◌, true, length, map, refl, ap, sym, ◌∙◌, subst}
use Rattle.std.proofs.lemmas.Result.{err_from_is_err_and}
use Rattle.std.specs.List.{AllByRecursion}
use Rattle.vx_order.specs.declared.letter.Letter.{Letter}
use Rattle.vx_scheme.proofs.GivingLaws.{part_faults}
use Rattle.vx_order.specs.Letters.{LetterIsWithin}
use Rattle.maven_scheme.specs.Tokens.{Token, behind_next, front_token, next_token, tokens_behind}
use Rattle.maven_scheme.specs.Letters.{without_nulls, letter_of, letters_of}
use Rattle.maven_scheme.specs.Steps.Nulls.{with_letter}
use Rattle.maven_scheme.proofs.NullLaws.{all_counted, here_within, one_more, stripped_within}
use Rattle.maven_scheme.proofs.TokenLaws.{behind_shorter, tokens_step}
use Rattle.maven_scheme.proofs.letters.letters.Goals as goal

-- the letters of the tokens that are left, with that of the next one in front
abbrev joined_next : List Letter → List ℕ → List ℕ → List Letter
joined_next letters rest behind = without_nulls (letters ++ letter_of (next_token rest) ∷ map letter_of (tokens_behind behind))

one_taken : (letters : List Letter) (rest : List ℕ) (all : List Letter) → rest ≢ [] → without_nulls (letters ++ map letter_of (tokens_behind rest)) ≡ all → joined_next letters rest (behind_next rest) ≡ all
one_taken letters rest all some is = ap (λ (tokens : List Token). without_nulls (letters ++ map letter_of tokens)) (sym (tokens_step rest some)) ∙ is

empty : (text : List ℕ) → length text ≡ 0 → text ≡ []
empty [] size = refl
empty (b ∷ text) size = absurd (omega (arith, size))

pub tokens-init : goal.tokens-init
tokens-init c =
    let text = c.args.text.now in
    let first = letter_of (front_token true text) in
    one_more c.push_front.new.letters [] first (map letter_of (tokens_behind c.in_ok-rest.rest.now)) (letters_of text)
    (c.in_ok-rest.ensures.ok ∙ ap (λ (t : List Letter). with_letter t first) c.in_ok-letters.ensures)
    (ap (λ (t : List ℕ). without_nulls (first ∷ map letter_of (tokens_behind t))) c.in_ok-rest.ensures.rest) refl tt c.in_ok-rest.ensures.within

pub returns-in_err-rest-2 : goal.returns-in_err-rest-2
returns-in_err-rest-2 c =
    let some : c.tokens.rest.now ≢ [] = search rules in
    let rest = c.tokens.rest.now in
    let all = letters_of c.args.text.now in
    let p = err_from_is_err_and c.from_residual-in_err-rest-2.result c.from_residual-in_err-rest-2.ensures.1 in
    rw (p.1, p.2)
    (part_faults _ (here_within c.tokens.letters (letter_of (next_token rest)) (map letter_of (tokens_behind (behind_next rest))) all (one_taken c.tokens.letters rest all some c.tokens.invariant.0)) c.in_err-rest-2.ensures.err)

pub tokens-smaller : goal.tokens-smaller
tokens-smaller c =
    let some : c.tokens.rest.now ≢ [] = search rules in
    subst (λ (t : List ℕ). length t < length c.tokens.rest.now) (sym c.in_ok-rest-2.ensures.rest) (behind_shorter c.tokens.rest.now some)

pub tokens-preserved : goal.tokens-preserved
tokens-preserved c =
    let some : c.tokens.rest.now ≢ [] = search rules in
    let rest = c.tokens.rest.now in
    let all = letters_of c.args.text.now in
    one_more c.push_next.new.letters c.tokens.letters (letter_of (next_token rest)) (map letter_of (tokens_behind c.in_ok-rest-2.rest.now)) all
    c.in_ok-rest-2.ensures.ok
    (ap (joined_next c.tokens.letters rest) c.in_ok-rest-2.ensures.rest ∙ one_taken c.tokens.letters rest all some c.tokens.invariant.0)
    c.tokens.invariant.1 c.tokens.invariant.2 c.in_ok-rest-2.ensures.within

pub returns : goal.returns
returns c =
    let size : length c.tokens.rest.now ≡ 0 = search rules in
    let none = empty c.tokens.rest.now size in
    let all = letters_of c.args.text.now in
    let is = all_counted c.tokens.letters all (map letter_of (tokens_behind c.tokens.rest.now)) (ap (λ (t : List ℕ). map letter_of (tokens_behind t)) none) c.tokens.invariant.0 c.tokens.invariant.1 in
    (c.drop_nulls.ensures ∙ is, subst (AllByRecursion LetterIsWithin) is (stripped_within c.tokens.letters c.tokens.invariant.2))
