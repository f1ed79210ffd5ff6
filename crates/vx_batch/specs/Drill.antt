-- The drill: lines that are made of their numbers, and the sums of their answers.
use Rattle.std.specs.Prelude.{◌≡◌, ◌+◌, ◌%◌, ◌==◌, ℕ, zero, suc, List, [], ◌∷◌, ◌++◌, Bool, not, if◌then◌else◌, codes, length, flat_map}
use Rattle.std.specs.List.{count_by}
use Rattle.vx_spec.specs.Numerals.{numeral_text}
use Rattle.vx_lines.specs.Lines.{line_feed}
use Rattle.vx_lines.specs.Output.{AnswersLines, output}
use Rattle.vx_batch.specs.declared.drilling.Sums.{Sums}
use Rattle.vx_batch.specs.Answers.{IsLineAnswer}

-- two numbers with a dot between them, and three
abbrev pub two : ℕ → ℕ → List ℕ
two a b = numeral_text a ++ codes "." ++ numeral_text b

abbrev pub three : ℕ → ℕ → ℕ → List ℕ
three a b c = two a b ++ codes "." ++ numeral_text c

-- the lines of eight kinds, by three numbers
abbrev pub npm_line : ℕ → ℕ → ℕ → List ℕ
npm_line a b c = codes "to-vers\tnpm\tall\t^" ++ three a b c

abbrev pub pypi_line : ℕ → ℕ → ℕ → List ℕ
pypi_line a b c = codes "to-vers\tpypi\tall\t==" ++ two a b ++ codes ".*,!=" ++ three a b c

abbrev pub maven_line : ℕ → ℕ → ℕ → List ℕ
maven_line a b c = codes "to-vers\tmaven\tall\t[" ++ two a b ++ codes "," ++ three a b c ++ codes "]"

abbrev pub gem_line : ℕ → ℕ → ℕ → List ℕ
gem_line a b c = codes "to-vers\tgem\treleases\t~> " ++ three a b c

abbrev pub deb_line : ℕ → ℕ → ℕ → List ℕ
deb_line a b c = codes "to-vers\tdeb\tall\t>= " ++ two a b ++ codes "-" ++ numeral_text c ++ codes ", << " ++ two (a + 1) b

abbrev pub rpm_line : ℕ → ℕ → List ℕ
rpm_line a b = codes "to-vers\trpm\tall\t>= " ++ two a b ++ codes "-1"

abbrev pub nuget_line : ℕ → ℕ → ℕ → List ℕ
nuget_line a b c = codes "canon\tvers:nuget/<" ++ numeral_text (a + 1) ++ codes ".0|>=" ++ three a b (c + 1) ++ codes "|>=" ++ two a b

abbrev pub purl_line : ℕ → ℕ → ℕ → List ℕ
purl_line a b c = codes "purl\tpkg:PyPI/Name_" ++ two a b ++ codes "@" ++ numeral_text c ++ codes "?z=" ++ numeral_text b ++ codes "&y=" ++ numeral_text a

-- the line of each kind, from 0 to 7
abbrev pub line_of_kind : ℕ → ℕ → ℕ → ℕ → List ℕ
line_of_kind kind a b c =
    if kind == 0 then npm_line a b c
    else if kind == 1 then pypi_line a b c
    else if kind == 2 then maven_line a b c
    else if kind == 3 then gem_line a b c
    else if kind == 4 then deb_line a b c
    else if kind == 5 then rpm_line a b
    else if kind == 6 then nuget_line a b c
    else purl_line a b c

-- the line of a number
abbrev pub drill_text : ℕ → List ℕ
drill_text i = line_of_kind (i % 8) (i % 7 + 1) (i % 11) (i % 13)

-- the lines 1 to n
abbrev pub drill_lines : ℕ → List (List ℕ)
drill_lines zero = []
drill_lines (suc n) = drill_lines n ++ drill_text (n + 1) ∷ []

-- the same as bytes, each line with a line feed
abbrev pub drill_input : ℕ → List ℕ
drill_input n = flat_map (λ line. line ++ line_feed ∷ []) (drill_lines n)

-- The sums are those of the answers to the lines 1 to n: how many lines there are, how many answers are accepted lines',
-- how many are not, and how many bytes the output of the answers has.
pub record IsDrill (n : ℕ) (sums : Sums) : Type 0 where
  pub answers : List (Bool × List ℕ)
  pub each : AnswersLines (IsLineAnswer 65536) (drill_lines n) answers
  pub lines : sums.lines ≡ n
  pub ok : sums.ok ≡ count_by (λ answer. answer.0) answers
  pub no : sums.no ≡ count_by (λ answer. not answer.0) answers
  pub bytes : sums.bytes ≡ length (output answers)

-- the four lines of the sums, without the last line feed
abbrev pub sums_text : Sums → List ℕ
sums_text sums =
    codes "lines " ++ numeral_text sums.lines ++ codes "\nok " ++ numeral_text sums.ok ++ codes "\nno " ++ numeral_text sums.no ++ codes "\nbytes " ++ numeral_text sums.bytes

-- The text has the sums of the answers to the lines 1 to n, and says whether each of these is an accepted line's.
pub record IsDrillAnswer (n : ℕ) (ok : Bool) (text : List ℕ) : Type 0 where
  pub sums : Sums
  pub are : IsDrill n sums
  pub accepted : ok ≡ (sums.no == 0)
  pub printed : text ≡ sums_text sums
