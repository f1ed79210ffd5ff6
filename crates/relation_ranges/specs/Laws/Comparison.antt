-- What the signs of comparisons promise: each comparison has its own, and they are words.
use Rattle.std.proofs.Common.{◌≡◌, ◌||◌, ◌+◌, ◌==◌, if◌then◌else◌, ℕ, true, List, [], ◌∷◌, refl, sym, ap, ◌∙◌}
use Rattle.std.specs.List.{list_all}
use Rattle.relation_ranges.specs.declared.comparison.Comparison.{Comparison}
use Rattle.relation_ranges.specs.declared.comparison.Comparison.TheVariants.{Less, LessOrEqual, Equal, GreaterOrEqual, Greater}
use Rattle.relation_ranges.specs.declared.comparison.Strict.{Strict}
use Rattle.relation_ranges.specs.declared.comparison.Strict.TheVariants.{Single, Doubled}
use Rattle.relation_ranges.specs.Comparison.{HasSigns, is_sign, signs_of}
use Rattle.relation_ranges.specs.Laws.Written.{IsWord, IsWritable}

-- an operator is told by the sum of its signs
abbrev pub sum_of : List ℕ → ℕ
sum_of [] = 0
sum_of (b ∷ bytes) = b + sum_of bytes

abbrev pub comparison_by : ℕ → Comparison
comparison_by n =
    if n == 60 || n == 120 then Less else (if n == 121 then LessOrEqual else (if n == 123 then GreaterOrEqual else (if n == 62 || n == 124 then Greater else Equal)))

comparison_back : (strict : Strict) (how : Comparison) → comparison_by (sum_of (signs_of strict how)) ≡ how
comparison_back Single Less = refl
comparison_back Doubled Less = refl
comparison_back strict LessOrEqual = refl
comparison_back strict Equal = refl
comparison_back strict GreaterOrEqual = refl
comparison_back Single Greater = refl
comparison_back Doubled Greater = refl

pub one_comparison : (strict : Strict) (signs : List ℕ) (a b : Comparison) → HasSigns strict a signs → HasSigns strict b signs → a ≡ b
one_comparison strict signs a b p q = sym (comparison_back strict a) ∙ ap (λ s. comparison_by (sum_of s)) (sym p ∙ q) ∙ comparison_back strict b

signs_all : (strict : Strict) (how : Comparison) → list_all is_sign (signs_of strict how) ≡ true
signs_all Single Less = refl
signs_all Doubled Less = refl
signs_all strict LessOrEqual = refl
signs_all strict Equal = refl
signs_all strict GreaterOrEqual = refl
signs_all Single Greater = refl
signs_all Doubled Greater = refl

pub signs_word : (strict : Strict) (how : Comparison) → IsWord (signs_of strict how)
signs_word Single Less = record { bytes = refl; some = refl }
signs_word Doubled Less = record { bytes = refl; some = refl }
signs_word strict LessOrEqual = record { bytes = refl; some = refl }
signs_word strict Equal = record { bytes = refl; some = refl }
signs_word strict GreaterOrEqual = record { bytes = refl; some = refl }
signs_word Single Greater = record { bytes = refl; some = refl }
signs_word Doubled Greater = record { bytes = refl; some = refl }

-- a language of comparisons is writable where the texts of its versions are words that spell them
pub compared_table : {V : Type 0} (strict : Strict) (Spells : List ℕ → V → Type 0) (normal : V → List ℕ) (IsVersion : V → Type 0)
    → ((v : V) → IsVersion v → IsWord (normal v)) → ((v : V) → IsVersion v → Spells (normal v) v) → IsWritable is_sign (signs_of strict) (HasSigns strict) Spells normal IsVersion
compared_table strict Spells normal IsVersion text_word spelled = record {
  no_blank = refl;
  signs_all = signs_all strict;
  signs_word = signs_word strict;
  signs_are = λ how. refl;
  text_word = text_word;
  spelled = spelled;
}
