-- The front of a version's text is taken apart: the 'v', the epoch and the release.
use Rattle.std.proofs.Common.{◌≡◌, ◌≢◌, ◌++◌, ◌==◌, nat_lt, ℕ, Bool, true, false, List, [], ◌∷◌, length, drop, Option, Some, None, refl, sym, ap, ◌∙◌, append_assoc, inl, inr, arith}
use Rattle.std.specs.Char.{is_ascii_digit, to_ascii_lowercase}
use Rattle.std.specs.List.{join_with_byte, list_all}
use Rattle.std.specs.Str.{bytes_eq}
use Rattle.std.proofs.lemmas.Bool.{and_from, and_parts, cases_Bool, eqb-true}
use Rattle.std.proofs.lemmas.Bool.Decides.{nat_tests}
use Rattle.std.proofs.lemmas.List.{drop_at}
use Rattle.std.proofs.lemmas.List.Folds.{list_all-append}
use Rattle.std.proofs.lemmas.Slice.Eq.{bytes_eq-Decides}
use Rattle.vx_spec.specs.Marks.{in_front}
use Rattle.vx_spec.specs.Numerals.{is_numeral}
use Rattle.vx_spec.specs.Runs.{begins, past, run, without_end}
use Rattle.vx_spec.proofs.RunLaws.{one_run, past_stays, past_step}
use Rattle.vx_spec.proofs.TextLaws.{each_by_test, each_joined, each_part, test_by_each}
use Rattle.vx_text.specs.Folding.{lowered}
use Rattle.vx_spec.specs.Signs.{bang, dot, hyphen}
use Rattle.vx_text.specs.EpochParts.{is_epoch}
use Rattle.pep440_scheme.specs.Spelling.{has_byte, is_separator, is_v}
use Rattle.pep440_scheme.specs.Steps.Apart.{after_release, after_v, epoch_by, epoch_step, is_dot, is_release_byte, release_at, small_v}
use Rattle.pep440_scheme.specs.Laws.Ends.{ends, without_end_append}
use Rattle.pep440_scheme.specs.Laws.Suffixes.{StandsApart}

numeral_digits : (digits : List ℕ) → is_numeral digits ≡ true → list_all is_ascii_digit digits ≡ true
numeral_digits digits is = (and_parts (nat_lt 0 (length digits)) (list_all is_ascii_digit digits) is).1

-- ---- what stands behind a release

-- dots, and a text that begins with no byte of a release
pub record IsBehind (text : List ℕ) : Type 0 where
  pub no_digit : begins is_ascii_digit text ≡ false
  pub no_bang : begins (λ b. b == bang) text ≡ false
  pub dots : List ℕ
  pub rest : List ℕ
  pub joined : text ≡ dots ++ rest
  pub dots_are : list_all is_dot dots ≡ true
  pub rest_is : begins is_release_byte rest ≡ false

neither : (text : List ℕ) → begins is_ascii_digit text ≡ false → begins is_separator text ≡ false → begins is_release_byte text ≡ false
neither [] digit gap = refl
neither (b ∷ text) digit gap = let no : (b == dot) ≡ false = grind (arith, nat_tests) in rw (digit, no) refl

pub behind_apart : (text : List ℕ) → StandsApart text → IsBehind text
behind_apart [] is = record { no_digit = refl; no_bang = refl; dots = []; rest = []; joined = refl; dots_are = refl; rest_is = refl }
behind_apart (b ∷ text) is = elim (cases_Bool (b == dot)) [
  | inl one ↦ of_dot b text (eqb-true b dot one) is
  | inr other ↦ record { no_digit = is.no_digit; no_bang = is.no_bang; dots = []; rest = b ∷ text; joined = refl; dots_are = refl; rest_is = rw (is.no_digit, other) refl }
]
  where
    of_dot : (c : ℕ) (t : List ℕ) → c ≡ dot → StandsApart (c ∷ t) → IsBehind (c ∷ t)
    of_dot c t e one = let at : StandsApart (dot ∷ t) = rw e at one in rw e (record { no_digit = refl; no_bang = refl; dots = dot ∷ []; rest = t; joined = refl; dots_are = refl; rest_is = neither t at.no_digit_behind at.no_gap_behind })

pub behind_dash : (text : List ℕ) → IsBehind (hyphen ∷ text)
behind_dash text = record { no_digit = refl; no_bang = refl; dots = []; rest = hyphen ∷ text; joined = refl; dots_are = refl; rest_is = refl }

-- ---- the release

abbrev Passes : ℕ → Type 0
Passes b = is_release_byte b ≡ true

pub release_bytes : (parts : List (List ℕ)) → list_all is_numeral parts ≡ true → list_all is_release_byte (join_with_byte dot parts) ≡ true
release_bytes parts all =
    test_by_each Passes is_release_byte (join_with_byte dot parts) (λ b h. h)
    (each_joined Passes dot refl parts (each_part Passes is_numeral parts (λ x is. each_by_test Passes is_ascii_digit x (λ b digit. rw digit refl) (numeral_digits x is)) all))

ends_digits : (digits : List ℕ) → list_all is_ascii_digit digits ≡ true → ends is_dot digits ≡ false
ends_digits [] all = refl
ends_digits (d ∷ []) all = let digit = (and_parts (is_ascii_digit d) true all).0 in grind (arith, nat_tests)
ends_digits (d ∷ e ∷ digits) all = ends_digits (e ∷ digits) (and_parts (is_ascii_digit d) (list_all is_ascii_digit (e ∷ digits)) all).1

pub ends_append : (test : ℕ → Bool) (xs : List ℕ) (b : ℕ) (ys : List ℕ) → ends test (xs ++ (b ∷ ys)) ≡ ends test (b ∷ ys)
ends_append test [] b ys = refl
ends_append test (x ∷ []) b ys = refl
ends_append test (x ∷ y ∷ xs) b ys = ends_append test (y ∷ xs) b ys

pub numerals_some : (x : List ℕ) (xs : List (List ℕ)) → is_numeral x ≡ true → join_with_byte dot (x ∷ xs) ≢ []
numerals_some [] xs is e = cc is
numerals_some (d ∷ x) [] is e = cc e
numerals_some (d ∷ x) (y ∷ xs) is e = cc e

ends_later : (test : ℕ → Bool) (b : ℕ) (text : List ℕ) → text ≢ [] → ends test (b ∷ text) ≡ ends test text
ends_later test b [] some = absurd (some refl)
ends_later test b (c ∷ text) some = refl

release_ends : (parts : List (List ℕ)) → list_all is_numeral parts ≡ true → ends is_dot (join_with_byte dot parts) ≡ false
release_ends [] all = refl
release_ends (x ∷ []) all = ends_digits x (numeral_digits x (and_parts (is_numeral x) true all).0)
release_ends (x ∷ y ∷ parts) all =
    let later = (and_parts (is_numeral x) (list_all is_numeral (y ∷ parts)) all).1 in
    ends_append is_dot x dot (join_with_byte dot (y ∷ parts))
    ∙ ends_later is_dot dot (join_with_byte dot (y ∷ parts)) (numerals_some y parts (and_parts (is_numeral y) (list_all is_numeral parts) later).0) ∙ release_ends (y ∷ parts) later

-- the text begins with this release
pub record ReadsRelease (release behind text : List ℕ) : Type 0 where
  pub release_is : release_at text ≡ release
  pub behind_is : after_release text ≡ behind

pub release_reads : (parts : List (List ℕ)) (behind : List ℕ) → list_all is_numeral parts ≡ true → IsBehind behind → ReadsRelease (join_with_byte dot parts) behind (join_with_byte dot parts ++ behind)
release_reads parts behind all is =
    let release = join_with_byte dot parts in
    let whole : release ++ behind ≡ (release ++ is.dots) ++ is.rest = ap (λ (t : List ℕ). release ++ t) is.joined ∙ sym (append_assoc release is.dots is.rest) in
    let dots = test_by_each Passes is_release_byte is.dots (λ b h. h) (each_by_test Passes is_dot is.dots (λ b e. dot_passes b e) is.dots_are) in
    let bytes = list_all-append is_release_byte release is.dots ∙ and_from (list_all is_release_byte release) (list_all is_release_byte is.dots) (release_bytes parts all) dots in
    let front : run is_release_byte (release ++ behind) ≡ release ++ is.dots = ap (run is_release_byte) whole ∙ (one_run is_release_byte (release ++ is.dots) is.rest bytes is.rest_is).0 in
    let found : release_at (release ++ behind) ≡ release = ap (without_end is_dot) front ∙ without_end_append is_dot release is.dots is.dots_are (release_ends parts all) in
    record {
      release_is = found;
      behind_is = ap (λ (r : List ℕ). drop (length r) (release ++ behind)) found ∙ drop_at release behind (length release) refl;
    }
  where
    dot_passes : (b : ℕ) → is_dot b ≡ true → is_release_byte b ≡ true
    dot_passes b e = rw (eqb-true b dot e) refl

-- ---- the epoch

no_epoch : (text digits behind : List ℕ) → begins (λ b. b == bang) behind ≡ false → epoch_by text digits behind ≡ record { digits = None; rest = text }
no_epoch text digits [] none = refl
no_epoch text [] (b ∷ behind) none = refl
no_epoch text (d ∷ digits) (b ∷ behind) none = rw none refl

no_bang_behind : (release behind : List ℕ) → list_all is_release_byte release ≡ true → begins is_ascii_digit behind ≡ false → begins (λ b. b == bang) behind ≡ false
    → begins (λ b. b == bang) (past is_ascii_digit (release ++ behind)) ≡ false
no_bang_behind [] [] all digit none = refl
no_bang_behind [] (b ∷ behind) all digit none = rw (past_stays is_ascii_digit b behind digit) none
no_bang_behind (r ∷ release) behind all digit none =
    let a = and_parts (is_release_byte r) (list_all is_release_byte release) all in
    elim (cases_Bool (is_ascii_digit r)) [
      | inl is ↦ rw (past_step is_ascii_digit r (release ++ behind) is) (no_bang_behind release behind a.1 digit none)
      | inr other ↦
          let one : (r == bang) ≡ false = no_such r a.0 other in
          rw (past_stays is_ascii_digit r (release ++ behind) other) one
    ]
  where
    no_such : (b : ℕ) → is_release_byte b ≡ true → is_ascii_digit b ≡ false → (b == bang) ≡ false
    no_such b is other = let one : (b == dot) ≡ true = rw other at is in rw (eqb-true b dot one) refl

some_digit : (part : List ℕ) → is_numeral part ≡ true → has_byte part ≡ true
some_digit [] is = cc is
some_digit (d ∷ part) is = refl

pub epoch_reads : (epoch : Option (List ℕ)) (release behind : List ℕ) → is_epoch epoch ≡ true → list_all is_release_byte release ≡ true → begins is_ascii_digit behind ≡ false → begins (λ b. b == bang) behind ≡ false
    → epoch_step (in_front bang epoch (release ++ behind)) ≡ record { digits = epoch; rest = release ++ behind }
epoch_reads None release behind is all digit none = no_epoch (release ++ behind) (run is_ascii_digit (release ++ behind)) (past is_ascii_digit (release ++ behind)) (no_bang_behind release behind all digit none)
epoch_reads (Some part) release behind is all digit none =
    let r = one_run is_ascii_digit part (bang ∷ (release ++ behind)) (numeral_digits part is) refl in
    rw (r.0, r.1, some_digit part is) refl

-- ---- the 'v'

digit_no_v : (b : ℕ) → is_ascii_digit b ≡ true → (to_ascii_lowercase b == small_v) ≡ false
digit_no_v b is = grind (arith, nat_tests)

no_v : (text : List ℕ) → begins is_ascii_digit text ≡ true → after_v text ≡ text
no_v [] is = refl
no_v (b ∷ text) is = rw (digit_no_v b is) refl

one_v : (v text : List ℕ) → lowered v ≡ small_v ∷ [] → after_v (v ++ text) ≡ text
one_v [] text e = cc e
one_v (b ∷ []) text e = let is : to_ascii_lowercase b ≡ small_v = cc e in rw is refl
one_v (b ∷ c ∷ v) text e = cc e

pub v_reads : (v text : List ℕ) → is_v v ≡ true → begins is_ascii_digit text ≡ true → after_v (v ++ text) ≡ text
v_reads v text is digit = elim (cases_Bool (bytes_eq v [])) [
  | inl none ↦ let e = (bytes_eq-Decides v []).0 none in rw e (no_v text digit)
  | inr other ↦ let one : bytes_eq (lowered v) (small_v ∷ []) ≡ true = rw other at is in one_v v text ((bytes_eq-Decides (lowered v) (small_v ∷ [])).0 one)
]
