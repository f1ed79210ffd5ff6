-- A word of the table at the front of a text is the first word of the table there, whatever follows that does not go on to a
-- longer word.
use Rattle.std.proofs.Common.{◌≡◌, ◌++◌, ◌&&◌, ◌||◌, ℕ, Bool, true, false, not, List, [], ◌∷◌, eqb, ◌==◌, if◌then◌else◌, Some, None, refl, sym, inl, inr}
use Rattle.std.specs.Char.{is_ascii_lowercase, to_ascii_lowercase}
use Rattle.std.specs.List.{list_all}
use Rattle.std.specs.Str.{bytes_eq}
use Rattle.std.proofs.lemmas.Bool.{cases_Bool, and_parts, eq-eqb, eqb-true, not-true}
use Rattle.std.proofs.lemmas.Slice.Eq.{bytes_eq-Decides}
use Rattle.vx_spec.specs.Runs.{begins}
use Rattle.vx_text.specs.Folding.{lowered}
use Rattle.pep440_scheme.specs.declared.words.Mark.{Mark}
use Rattle.pep440_scheme.specs.Spelling.{is_pre_mark}
use Rattle.pep440_scheme.specs.Words.{MarkWord, mark_in, mark_of, mark_words}
use Rattle.pep440_scheme.specs.Steps.Apart.{after_word, first_word}

-- a letter by which a word of the table goes on to a longer one: 'l' of "alpha", 'e' of "beta" and "rev", 'v' of "preview",
-- 'c' of "rc"
abbrev pub is_later : ℕ → Bool
is_later b = (b == 108 || b == 101) || (b == 118 || b == 99)

-- the text goes on with such a letter
abbrev pub goes_on : ℕ → Bool
goes_on b = is_later (to_ascii_lowercase b)

-- a text does not begin with the word that begins with the other one, unless that goes on by such a letter
abbrev is_apart : List ℕ → List ℕ → Bool
is_apart [] other = false
is_apart (w ∷ word) [] = is_later w
is_apart (w ∷ word) (b ∷ other) = if b == w then is_apart word other else true

no_word : (word x rest : List ℕ) → is_apart word (lowered x) ≡ true → begins goes_on rest ≡ false → after_word word (x ++ rest) ≡ None
unfolding after_word
no_word [] x rest apart none = cc apart
no_word (w ∷ word) [] [] apart none = refl
no_word (w ∷ word) [] (b ∷ rest) apart none = elim (cases_Bool (eqb (to_ascii_lowercase b) w)) [
  | inl is ↦ let e = eqb-true (to_ascii_lowercase b) w is in let later : is_later (to_ascii_lowercase b) ≡ true = rw e apart in cc
  | inr other ↦ rw other refl
]
no_word (w ∷ word) (b ∷ x) rest apart none = elim (cases_Bool (eqb (to_ascii_lowercase b) w)) [
  | inl is ↦ rw is (no_word word x rest (rw is at apart) none)
  | inr other ↦ rw other refl
]

pub word_again : (x rest : List ℕ) → after_word (lowered x) (x ++ rest) ≡ Some rest
unfolding after_word
word_again [] rest = refl
word_again (b ∷ x) rest = rw (eq-eqb (to_ascii_lowercase b) (to_ascii_lowercase b) refl) (word_again x rest)

-- each word of the table is apart from those behind it
abbrev is_apart_table : List MarkWord → Bool
is_apart_table [] = true
is_apart_table (entry ∷ table) = list_all (λ (other : MarkWord). is_apart entry.word other.word) table && is_apart_table table

-- what holds of each word of the table and its mark
pub mark_in_has : (test : MarkWord → Bool) (table : List MarkWord) (word : List ℕ) (mark : Mark) → list_all test table ≡ true → mark_in table word ≡ Some mark
    → test (record { word = word; mark = mark }) ≡ true
mark_in_has test [] word mark all is = cc is
mark_in_has test (entry ∷ table) word mark all is =
    let a = and_parts (test entry) (list_all test table) all in
    elim (cases_Bool (bytes_eq entry.word word)) [
      | inl same ↦
          let word_is = (bytes_eq-Decides entry.word word).0 same in
          let mark_is : entry.mark ≡ mark = cc (rw same at is) in
          rw (sym word_is, sym mark_is) a.0
      | inr other ↦ mark_in_has test table word mark a.1 (rw other at is)
    ]

first_again : (table : List MarkWord) (x rest : List ℕ) (mark : Mark) → is_apart_table table ≡ true → mark_in table (lowered x) ≡ Some mark → begins goes_on rest ≡ false
    → first_word table (x ++ rest) ≡ Some (record { mark = mark; rest = rest })
first_again [] x rest mark apart is none = cc is
first_again (entry ∷ table) x rest mark apart is none =
    let a = and_parts (list_all (λ (other : MarkWord). is_apart entry.word other.word) table) (is_apart_table table) apart in
    elim (cases_Bool (bytes_eq entry.word (lowered x))) [
      | inl same ↦
          let word_is = (bytes_eq-Decides entry.word (lowered x)).0 same in
          let mark_is : entry.mark ≡ mark = cc (rw same at is) in
          rw (word_is, word_again x rest, mark_is) refl
      | inr other ↦
          let later : mark_in table (lowered x) ≡ Some mark = rw other at is in
          let differs = mark_in_has (λ (o : MarkWord). is_apart entry.word o.word) table (lowered x) mark a.0 later in
          rw (no_word entry.word x rest differs none) (first_again table x rest mark a.1 later none)
    ]

-- a word of the table is the first word there
pub word_first : (x rest : List ℕ) (mark : Mark) → mark_of (lowered x) ≡ Some mark → begins goes_on rest ≡ false → first_word mark_words (x ++ rest) ≡ Some (record { mark = mark; rest = rest })
word_first x rest mark is none = first_again mark_words x rest mark refl is none

-- it begins with a letter
pub word_begins : (x : List ℕ) (mark : Mark) → mark_of (lowered x) ≡ Some mark → begins is_ascii_lowercase (lowered x) ≡ true
word_begins x mark is = mark_in_has (λ (entry : MarkWord). begins is_ascii_lowercase entry.word) mark_words (lowered x) mark refl is

-- and, but for the words of pre-releases, with none that a word goes on by
pub word_not_later : (x : List ℕ) (mark : Mark) → mark_of (lowered x) ≡ Some mark → is_pre_mark (Some mark) ≡ false → begins is_later (lowered x) ≡ false
word_not_later x mark is later =
    let e = mark_in_has (λ (entry : MarkWord). is_pre_mark (Some entry.mark) || not (begins is_later entry.word)) mark_words (lowered x) mark refl is in
    not-true (begins is_later (lowered x)) (rw later at e)
