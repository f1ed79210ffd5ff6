-- The lines of a drill are the lines of their bytes, and a drill's answers are those of `batch`.
use Rattle.std.proofs.Common.{◌≡◌, ◌+◌, ◌%◌, ◌==◌, ◌++◌, ◌&&◌, ◌∙◌, ℕ, zero, suc, List, [], ◌∷◌, Bool, true, false, not, if◌then◌else◌, cond, codes, length, arith, refl, sym, ap, subst, add-one, length-append}
use Rattle.std.specs.List.{AllByRecursion, count_by, list_all}
use Rattle.std.specs.Char.{is_ascii_digit}
use Rattle.std.proofs.lemmas.Bool.{and_parts}
use Rattle.std.proofs.lemmas.List.Sums.{sum_by-cons, sum_by_push}
use Rattle.vx_spec.specs.Marks.{Lacks}
use Rattle.vx_spec.specs.Numerals.{numeral_text}
use Rattle.vx_spec.proofs.EndLaws.{lacks_by, lacks_append}
use Rattle.vx_spec.proofs.NumeralLaws.{numeral_text_is}
use Rattle.vx_lines.specs.Output.{AnswersLines, IsOutput, Says, all_ok, lines, output}
use Rattle.vx_lines.proofs.Outputs.{lines_whole}
use Rattle.vx_lines.proofs.Runs.{output_append, zip_append}
use Rattle.vx_batch.specs.Answers.{IsLineAnswer}
use Rattle.vx_batch.specs.Drill.{two, three, npm_line, pypi_line, maven_line, gem_line, deb_line, rpm_line, nuget_line, purl_line, line_of_kind, drill_text, drill_lines, drill_input, IsDrill}
use Rattle.vx_batch.specs.Steps.Drill.{with_answer}
use Rattle.vx_batch.specs.Steps.OneLine.{HasOneLine}
use Rattle.vx_batch.specs.declared.drilling.Sums.{Sums}

-- ---- no line has a line feed

abbrev is_plain : ℕ → Bool
is_plain b = not (b == 10)

record IsPlain (text : List ℕ) : Type 0 where
  lacks : Lacks 10 text

literal : (text : List ℕ) → list_all is_plain text ≡ true → IsPlain text
literal text all = record { lacks = lacks_by is_plain 10 refl text all }

number : (n : ℕ) → IsPlain (numeral_text n)
number n = record { lacks = lacks_by is_ascii_digit 10 refl (numeral_text n) (and_parts _ _ (numeral_text_is n)).1 }

with : {x y : List ℕ} → IsPlain x → IsPlain y → IsPlain (x ++ y)
with {x} {y} p q = record { lacks = lacks_append 10 x y p.lacks q.lacks }

either : (b : Bool) {x y : List ℕ} → IsPlain x → IsPlain y → IsPlain (if b then x else y)
either true p q = p
either false p q = q

plain_two : (a b : ℕ) → IsPlain (two a b)
plain_two a b = with (with (number a) (literal (codes ".") refl)) (number b)

plain_three : (a b c : ℕ) → IsPlain (three a b c)
plain_three a b c = with (with (plain_two a b) (literal (codes ".") refl)) (number c)

plain_npm : (a b c : ℕ) → IsPlain (npm_line a b c)
plain_npm a b c = with (literal (codes "to-vers\tnpm\tall\t^") refl) (plain_three a b c)

plain_pypi : (a b c : ℕ) → IsPlain (pypi_line a b c)
plain_pypi a b c = with (with (with (literal (codes "to-vers\tpypi\tall\t==") refl) (plain_two a b)) (literal (codes ".*,!=") refl)) (plain_three a b c)

plain_maven : (a b c : ℕ) → IsPlain (maven_line a b c)
plain_maven a b c =
    with (with (with (with (literal (codes "to-vers\tmaven\tall\t[") refl) (plain_two a b)) (literal (codes ",") refl)) (plain_three a b c)) (literal (codes "]") refl)

plain_gem : (a b c : ℕ) → IsPlain (gem_line a b c)
plain_gem a b c = with (literal (codes "to-vers\tgem\treleases\t~> ") refl) (plain_three a b c)

plain_deb : (a b c : ℕ) → IsPlain (deb_line a b c)
plain_deb a b c =
    with (with (with (with (with (literal (codes "to-vers\tdeb\tall\t>= ") refl) (plain_two a b)) (literal (codes "-") refl)) (number c)) (literal (codes ", << ") refl)) (plain_two (a + 1) b)

plain_rpm : (a b : ℕ) → IsPlain (rpm_line a b)
plain_rpm a b = with (with (literal (codes "to-vers\trpm\tall\t>= ") refl) (plain_two a b)) (literal (codes "-1") refl)

plain_nuget : (a b c : ℕ) → IsPlain (nuget_line a b c)
plain_nuget a b c =
    with (with (with (with (with (literal (codes "canon\tvers:nuget/<") refl) (number (a + 1))) (literal (codes ".0|>=") refl)) (plain_three a b (c + 1))) (literal (codes "|>=") refl)) (plain_two a b)

plain_purl : (a b c : ℕ) → IsPlain (purl_line a b c)
plain_purl a b c =
    with (with (with (with (with (with (with (literal (codes "purl\tpkg:PyPI/Name_") refl) (plain_two a b)) (literal (codes "@") refl)) (number c)) (literal (codes "?z=") refl)) (number b)) (literal (codes "&y=") refl)) (number a)

plain_line : (kind a b c : ℕ) → IsPlain (line_of_kind kind a b c)
plain_line kind a b c =
    either (kind == 0) (plain_npm a b c)
    (either (kind == 1) (plain_pypi a b c)
    (either (kind == 2) (plain_maven a b c)
    (either (kind == 3) (plain_gem a b c)
    (either (kind == 4) (plain_deb a b c)
    (either (kind == 5) (plain_rpm a b)
    (either (kind == 6) (plain_nuget a b c)
    (plain_purl a b c)))))))

more_plain : (texts : List (List ℕ)) (text : List ℕ) → AllByRecursion (Lacks 10) texts → Lacks 10 text → AllByRecursion (Lacks 10) (texts ++ text ∷ [])
more_plain [] text all lacks = (lacks, tt)
more_plain (x ∷ texts) text all lacks = (all.0, more_plain texts text all.1 lacks)

all_plain : (n : ℕ) → AllByRecursion (Lacks 10) (drill_lines n)
all_plain zero = tt
all_plain (suc n) = more_plain (drill_lines n) (drill_text (n + 1)) (all_plain n) (plain_line ((n + 1) % 8) ((n + 1) % 7 + 1) ((n + 1) % 11) ((n + 1) % 13)).lacks

pub input_lines : (n : ℕ) → lines (drill_input n) ≡ drill_lines n
input_lines n = lines_whole (drill_lines n) (all_plain n)

-- ---- one answer more

abbrev says : Says
says = IsLineAnswer 65536

count_push : (p : Bool × List ℕ → Bool) (xs : List (Bool × List ℕ)) (x : Bool × List ℕ) → count_by p (xs ++ x ∷ []) ≡ count_by p xs + cond (p x) 1 0
count_push p xs x = sum_by_push (λ y. cond (p y) 1 0) xs x

one_more : (ok : Bool) (n m : ℕ) → m ≡ n + cond ok 1 0 → (if ok then n + 1 else n) ≡ m
one_more true n m e = sym e
one_more false n m e = omega (arith, e)

other_more : (ok : Bool) (n m : ℕ) → m ≡ n + cond (not ok) 1 0 → (if ok then n else n + 1) ≡ m
other_more true n m e = omega (arith, e)
other_more false n m e = sym e

pub none_yet : IsDrill 0 (record { lines = 0; ok = 0; no = 0; bytes = 0 })
none_yet = record { answers = []; each = tt; lines = refl; ok = refl; no = refl; bytes = refl }

module _ (n : ℕ) (sums : Sums) (ok : Bool) (text : List ℕ) (so : IsDrill n sums) (answered : says (drill_text (n + 1)) ok text) where
  abbrev found : List (Bool × List ℕ)
  found = so.answers ++ (ok, text) ∷ []

  pub drill_more : IsDrill (n + 1) (with_answer sums ok text)
  drill_more = record {
    answers = found;
    each = subst (λ m. AnswersLines says (drill_lines m) found) (sym (add-one n)) (zip_append (λ line answer. says line answer.0 answer.1) (drill_lines n) (drill_text (n + 1) ∷ []) so.answers ((ok, text) ∷ []) so.each (answered, tt));
    lines = ap (λ m. m + 1) so.lines;
    ok = one_more ok sums.ok (count_by (λ answer. answer.0) found) (count_push (λ answer. answer.0) so.answers (ok, text) ∙ ap (λ m. m + cond ok 1 0) (sym so.ok));
    no = other_more ok sums.no (count_by (λ answer. not answer.0) found) (count_push (λ answer. not answer.0) so.answers (ok, text) ∙ ap (λ m. m + cond (not ok) 1 0) (sym so.no));
    bytes = sizes;
  }
    where
      sizes : sums.bytes + (length text + 1) ≡ length (output found)
      sizes =
          let split = ap length (output_append so.answers ((ok, text) ∷ [])) ∙ length-append (output so.answers) (output ((ok, text) ∷ [])) in
          let last = length-append (text ++ 10 ∷ []) [] in
          let feed = length-append text (10 ∷ []) in
          omega (arith, split, last, feed, so.bytes)

-- ---- the answers of `batch`

same_answer : {a b : Bool} {t u : List ℕ} → a ≡ b → t ≡ u → ◌≡◌ {A = Bool × List ℕ} (a, t) (b, u)
same_answer e f = cc (e, f)

module _ (one : (line : List ℕ) → HasOneLine (says line)) where
  one_answers : (ls : List (List ℕ)) (xs ys : List (Bool × List ℕ)) → AnswersLines says ls xs → AnswersLines says ls ys → xs ≡ ys
  one_answers [] [] [] p q = refl
  one_answers [] [] (y ∷ ys) p q = absurd q
  one_answers [] (x ∷ xs) ys p q = absurd p
  one_answers (l ∷ ls) [] ys p q = absurd p
  one_answers (l ∷ ls) (x ∷ xs) [] p q = absurd q
  one_answers (l ∷ ls) (x ∷ xs) (y ∷ ys) p q =
      let same = one l x.0 y.0 x.1 y.1 p.0 q.0 in
      let first : x ≡ y = same_answer same.0 same.1 in
      let rest = one_answers ls xs ys p.1 q.1 in
      cc (first, rest)

  module _ (n : ℕ) (sums : Sums) (is_ok : Bool) (out : List ℕ) (so : IsDrill n sums) (printed : IsOutput says (drill_input n) is_ok out) where
    same : so.answers ≡ printed.answers
    same = one_answers (drill_lines n) so.answers printed.answers so.each (subst (λ ls. AnswersLines says ls printed.answers) (input_lines n) printed.each)

    pub batch_bytes : sums.bytes ≡ length out
    batch_bytes = so.bytes ∙ ap (λ answers. length (output answers)) same ∙ ap length (sym printed.printed)

    pub batch_ok : is_ok ≡ (sums.no == 0)
    batch_ok = printed.accepted ∙ ap all_ok (sym same) ∙ none_refused so.answers ∙ ap (λ m. m == 0) (sym so.no)
      where
        first_ok : (ok : Bool) (rest : Bool) (m k : ℕ) → rest ≡ (m == 0) → k ≡ cond (not ok) 1 0 + m → (ok && rest) ≡ (k == 0)
        first_ok true rest m k e f = e ∙ ap (λ j. j == 0) (omega (arith, f))
        first_ok false rest m k e f = rw f (grind arith)

        none_refused : (xs : List (Bool × List ℕ)) → all_ok xs ≡ (count_by (λ answer. not answer.0) xs == 0)
        none_refused [] = refl
        none_refused (x ∷ xs) = first_ok x.0 (all_ok xs) (count_by (λ answer. not answer.0) xs) (count_by (λ answer. not answer.0) (x ∷ xs)) (none_refused xs) (sum_by-cons (λ answer. cond (not answer.0) 1 0) x xs)

  same_sums : {l o n b l' o' n' b' : ℕ} → l ≡ l' → o ≡ o' → n ≡ n' → b ≡ b' → ◌≡◌ {A = Sums} (record { lines = l; ok = o; no = n; bytes = b }) (record { lines = l'; ok = o'; no = n'; bytes = b' })
  same_sums e f g h = cc (e, f, g, h)

  pub one_drill : (n : ℕ) (a b : Sums) → IsDrill n a → IsDrill n b → a ≡ b
  one_drill n a b p q =
      let same = one_answers (drill_lines n) p.answers q.answers p.each q.each in
      same_sums (p.lines ∙ sym q.lines) (p.ok ∙ ap (count_by (λ answer. answer.0)) same ∙ sym q.ok) (p.no ∙ ap (count_by (λ answer. not answer.0)) same ∙ sym q.no)
      (p.bytes ∙ ap (λ answers. length (output answers)) same ∙ sym q.bytes)

-- ---- each line is counted once

zip_length : (ls : List (List ℕ)) (xs : List (Bool × List ℕ)) → AnswersLines says ls xs → length ls ≡ length xs
zip_length [] [] p = refl
zip_length [] (x ∷ xs) p = absurd p
zip_length (l ∷ ls) [] p = absurd p
zip_length (l ∷ ls) (x ∷ xs) p = ap suc (zip_length ls xs p.1)

lines_length : (n : ℕ) → length (drill_lines n) ≡ n
lines_length zero = refl
lines_length (suc n) = omega (arith, lines_length n, length-append (drill_lines n) (drill_text (n + 1) ∷ []))

once : (ok : Bool) → cond ok 1 0 + cond (not ok) 1 0 ≡ 1
once true = refl
once false = refl

counts : (xs : List (Bool × List ℕ)) → count_by (λ answer. answer.0) xs + count_by (λ answer. not answer.0) xs ≡ length xs
counts [] = refl
counts (x ∷ xs) =
    omega (arith, counts xs, once x.0, sum_by-cons (λ (answer : Bool × List ℕ). cond answer.0 1 0) x xs, sum_by-cons (λ (answer : Bool × List ℕ). cond (not answer.0) 1 0) x xs)

pub all_counted : (n : ℕ) (sums : Sums) → IsDrill n sums → (sums.lines ≡ n) × (sums.ok + sums.no ≡ n)
all_counted n sums so = (so.lines, omega (arith, so.ok, so.no, counts so.answers, zip_length (drill_lines n) so.answers so.each, lines_length n))
