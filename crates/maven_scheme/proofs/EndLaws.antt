-- No letter of a version is the end of a list.
use Rattle.std.proofs.Common.{◌≡◌, ◌↔◌, ℕ, Bool, true, false, if◌then◌else◌, List, [], ◌∷◌, map, refl, sym, ap, ◌∙◌, codes, bytes_eq}
use Rattle.std.specs.List.{AllByRecursion}
use Rattle.std.specs.Ordering.{is_eq}
use Rattle.std.specs.declared.cmp.Ordering.TheVariants.{Equal}
use Rattle.vx_spec.specs.Runs.{begins}
use Rattle.vx_text.specs.Folding.{lowered}
use Rattle.vx_order.specs.declared.letter.Letter.{Letter}
use Rattle.vx_order.specs.Letters.{end_letter, letter_before, letter_cmp, without_end_letters}
use Rattle.vx_order.proofs.LetterLaws.{equal_without_end, equal_by_ended}
use Rattle.maven_scheme.specs.Version.{Fields, plain_letter, alpha_rank, beta_rank, milestone_rank, candidate_rank, snapshot_rank, end_rank, empty_rank, service_pack_rank, other_rank}
use Rattle.maven_scheme.specs.Tokens.{Token, is_word_byte, tokens_of}
use Rattle.maven_scheme.specs.Letters.{letter_of, full_name, number_letter, qualifier_letter}
use Rattle.maven_scheme.specs.Spelling.{IsVersion}
use Rattle.maven_scheme.specs.Order.{order_of}
use Rattle.maven_scheme.proofs.NullLaws.{counted_each}

-- the letter is not the end's
abbrev IsNoEnd : Letter → Type 0
IsNoEnd letter = is_eq (letter_cmp letter (end_letter end_rank)) ≡ false

either : (b : Bool) (x y : Letter) → IsNoEnd x → IsNoEnd y → IsNoEnd (if b then x else y)
either true x y p q = p
either false x y p q = q

qualifier_no_end : (word : List ℕ) → IsNoEnd (qualifier_letter word)
qualifier_no_end word =
    either (bytes_eq word (codes "alpha")) (plain_letter alpha_rank) _ refl
    (either (bytes_eq word (codes "beta")) (plain_letter beta_rank) _ refl
    (either (bytes_eq word (codes "milestone")) (plain_letter milestone_rank) _ refl
    (either (bytes_eq word (codes "rc")) (plain_letter candidate_rank) _ refl
    (either (bytes_eq word (codes "snapshot")) (plain_letter snapshot_rank) _ refl
    (either (bytes_eq word []) (plain_letter empty_rank) _ refl
    (either (bytes_eq word (codes "sp")) (plain_letter service_pack_rank) (record { rank = other_rank; number = 0; text = word }) refl refl))))))

number_no_end : (is_dotted : Bool) (digits : List ℕ) → IsNoEnd (number_letter is_dotted digits)
number_no_end true digits = refl
number_no_end false digits = refl

token_no_end : (token : Token) → IsNoEnd (letter_of token)
token_no_end token =
    either (begins is_word_byte token.text) (qualifier_letter (full_name token.before_digit (lowered token.text))) (number_letter token.is_dotted token.text)
    (qualifier_no_end (full_name token.before_digit (lowered token.text))) (number_no_end token.is_dotted token.text)

tokens_no_end : (tokens : List Token) → AllByRecursion IsNoEnd (map letter_of tokens)
tokens_no_end [] = tt
tokens_no_end (token ∷ tokens) = (token_no_end token, tokens_no_end tokens)

kept_before : (is_end : Bool) (letter : Letter) (letters : List Letter) → is_end ≡ false → letter_before is_end letter letters ≡ letter ∷ letters
kept_before true letter letters e = cc e
kept_before false letter [] e = refl
kept_before false letter (next ∷ letters) e = refl

whole : (letters : List Letter) → AllByRecursion IsNoEnd letters → without_end_letters end_rank letters ≡ letters
whole [] all = refl
whole (letter ∷ letters) all =
    kept_before (is_eq (letter_cmp letter (end_letter end_rank))) letter (without_end_letters end_rank letters) all.0 ∙ ap (λ (t : List Letter). letter ∷ t) (whole letters all.1)

version_whole : (v : Fields) → IsVersion v → without_end_letters end_rank v.letters ≡ v.letters
version_whole v is =
    ap (λ (w : Fields). without_end_letters end_rank w.letters) is.values
    ∙ whole _ (counted_each IsNoEnd (map letter_of (tokens_of v.text)) (tokens_no_end (tokens_of v.text)))
    ∙ sym (ap (λ (w : Fields). w.letters) is.values)

-- versions are order-equal exactly where their letters are equal
pub equal_versions : (a b : Fields) → IsVersion a → IsVersion b → (order_of a b ≡ Equal) ↔ (a.letters ≡ b.letters)
equal_versions a b x y = (
  λ e. sym (version_whole a x) ∙ equal_without_end end_rank a.letters b.letters e ∙ version_whole b y,
  λ e. equal_by_ended end_rank a.letters b.letters (ap (without_end_letters end_rank) e),
)
