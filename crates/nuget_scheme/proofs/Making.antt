-- Numbers made one behind the other, and the version that a text spells.
use Rattle.std.proofs.Common.{◌≡◌, ℕ, true, List, [], ◌∷◌, sym, ap, ◌∙◌, subst, refl}
use Rattle.std.specs.List.{list_all}
use Rattle.std.proofs.lemmas.Bool.{and_parts}
use Rattle.vx_spec.specs.Numerals.{is_numeral}
use Rattle.nuget_scheme.specs.Spelling.{Parts, Spells, number_at, version_of}
use Rattle.nuget_scheme.specs.Steps.Written.{IsNext, IsVersionWritten, behind_first, first_value}

-- ---- the numbers from left to right

pub first_numeral : (numbers : List (List ℕ)) (number : List ℕ) (behind : List (List ℕ)) → numbers ≡ number ∷ behind → list_all is_numeral numbers ≡ true → is_numeral number ≡ true
first_numeral numbers number behind is all =
    (and_parts (is_numeral number) (list_all is_numeral behind) (subst (λ (ns : List (List ℕ)). list_all is_numeral ns ≡ true) is all)).0

pub behind_numerals : (numbers : List (List ℕ)) → list_all is_numeral numbers ≡ true → list_all is_numeral (behind_first numbers) ≡ true
behind_numerals [] all = refl
behind_numerals (number ∷ numbers) all = (and_parts (is_numeral number) (list_all is_numeral numbers) all).1

-- a number is the first behind those before it
pub number_0 : (numbers : List (List ℕ)) → number_at 0 numbers ≡ first_value numbers
number_0 [] = refl
number_0 (a ∷ numbers) = refl

pub number_1 : (numbers : List (List ℕ)) → number_at 1 numbers ≡ first_value (behind_first numbers)
number_1 [] = refl
number_1 (a ∷ numbers) = number_0 numbers

pub number_2 : (numbers : List (List ℕ)) → number_at 2 numbers ≡ first_value (behind_first (behind_first numbers))
number_2 [] = refl
number_2 (a ∷ numbers) = number_1 numbers

pub number_3 : (numbers : List (List ℕ)) → number_at 3 numbers ≡ first_value (behind_first (behind_first (behind_first numbers)))
number_3 [] = refl
number_3 (a ∷ numbers) = number_2 numbers

-- the numbers that are taken off one behind the other are those at the first four places
pub four_numbers : {numbers more rest few none : List (List ℕ)} {a b c d : ℕ} → IsNext numbers a more → IsNext more b rest → IsNext rest c few → IsNext few d none
    → (a ≡ number_at 0 numbers) × (b ≡ number_at 1 numbers) × (c ≡ number_at 2 numbers) × (d ≡ number_at 3 numbers)
four_numbers {numbers} {more} {rest} {few} {none} {a} {b} {c} {d} first second third fourth =
    let two = second.rest ∙ ap behind_first first.rest in
    let three = third.rest ∙ ap behind_first two in (
      first.first ∙ sym (number_0 numbers),
      second.first ∙ ap first_value first.rest ∙ sym (number_1 numbers),
      third.first ∙ ap first_value two ∙ sym (number_2 numbers),
      fourth.first ∙ ap first_value three ∙ sym (number_3 numbers),
    )

-- a text that is written of parts spells what they stand for
pub written_spells : {text : List ℕ} {p : Parts} → IsVersionWritten text p → Spells text (version_of p)
written_spells {text} {p} is = record { parts = p; joined = is.joined; form = is.form; values = refl }
