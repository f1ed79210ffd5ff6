-- A text taken apart from the left: what each step takes, and what it leaves.
use Rattle.std.specs.Prelude.{◌≡◌, ◌+◌, not, ◌==◌, ◌&&◌, ◌||◌, ℕ, Bool, true, false, List, [], ◌∷◌, length, drop, map, Option, Some, None, if◌then◌else◌}
use Rattle.std.specs.Char.{is_ascii_digit, to_ascii_lowercase}
use Rattle.std.specs.List.{list_all, slice_split}
use Rattle.std.specs.Option.{option_map}
use Rattle.vx_spec.specs.Numerals.{is_numeral, value}
use Rattle.vx_spec.specs.Runs.{begins, run, past, trimmed, without_end}
use Rattle.pep440_scheme.specs.declared.version.PreKind.{PreKind}
use Rattle.pep440_scheme.specs.declared.version.PrePart.{PrePart}
use Rattle.pep440_scheme.specs.declared.words.Mark.{Mark}
use Rattle.pep440_scheme.specs.declared.words.Mark.TheVariants.{Pre, Post, Dev}
use Rattle.pep440_scheme.specs.Version.{Fields}
use Rattle.pep440_scheme.specs.Words.{MarkWord, mark_words}
use Rattle.vx_spec.specs.Signs.{bang, dot, hyphen, plus}
use Rattle.vx_text.specs.EpochParts.{epoch_value}
use Rattle.pep440_scheme.specs.Spelling.{has_byte, is_separator, is_local_text, local_of}

-- the byte 'v'
abbrev pub small_v : ℕ
small_v = 118

-- ---- what stands behind a sign that may be left out

abbrev pub after_v : List ℕ → List ℕ
after_v [] = []
after_v (b ∷ text) = if to_ascii_lowercase b == small_v then text else b ∷ text

abbrev pub after_gap : List ℕ → List ℕ
after_gap [] = []
after_gap (b ∷ text) = if is_separator b then text else b ∷ text

-- ---- words

-- what stands behind the word, where the text begins with it in any case of its letters
unfoldable pub after_word : List ℕ → List ℕ → Option (List ℕ)
after_word [] text = Some text
after_word (w ∷ word) [] = None
after_word (w ∷ word) (b ∷ text) = if to_ascii_lowercase b == w then after_word word text else None

-- a word's mark, and what stands behind the word
pub record Begun : Type 0 where
  pub mark : Mark
  pub rest : List ℕ

-- by the word, where it is there, or else by the others
abbrev pub begun_by : Mark → Option (List ℕ) → Option Begun → Option Begun
begun_by mark (Some rest) others = Some (record { mark = mark; rest = rest })
begun_by mark None others = others

-- the first word of a table with which the text begins
abbrev pub first_word : List MarkWord → List ℕ → Option Begun
first_word [] text = None
first_word (entry ∷ table) text = begun_by entry.mark (after_word entry.word text) (first_word table text)

-- ---- suffixes

-- what a suffix's word stands for, its digits, and what stands behind it
pub record Taken : Type 0 where
  pub mark : Mark
  pub digits : List ℕ
  pub rest : List ℕ

-- the longest digits behind a separator or none
abbrev pub taken_by : Option Begun → Option Taken
taken_by None = None
taken_by (Some begun) = Some (record {
  mark = begun.mark;
  digits = run is_ascii_digit (after_gap begun.rest);
  rest = past is_ascii_digit (after_gap begun.rest);
})

-- the suffix with which the text begins, behind a separator or none
unfoldable pub suffix_at : List ℕ → Option Taken
suffix_at text = taken_by (first_word mark_words (after_gap text))

-- a pre-release as it stands
pub record PreTaken : Type 0 where
  pub kind : PreKind
  pub digits : List ℕ

-- a pre-release that may be left out, and what stands behind it
pub record PreStep : Type 0 where
  pub pre : Option PreTaken
  pub rest : List ℕ

-- a suffix is a pre-release where its mark says so, and else is left for the next step
abbrev pub pre_by : List ℕ → Mark → List ℕ → List ℕ → PreStep
pre_by text (Pre kind) digits rest = record { pre = Some (record { kind = kind; digits = digits }); rest = rest }
pre_by text Post digits rest = record { pre = None; rest = text }
pre_by text Dev digits rest = record { pre = None; rest = text }

abbrev pub pre_taken : List ℕ → Option Taken → PreStep
pre_taken text None = record { pre = None; rest = text }
pre_taken text (Some taken) = pre_by text taken.mark taken.digits taken.rest

abbrev pub pre_step : List ℕ → PreStep
pre_step text = pre_taken text (suffix_at text)

-- a post- or dev-release that may be left out, and what stands behind it
pub record Step : Type 0 where
  pub digits : Option (List ℕ)
  pub rest : List ℕ

abbrev pub post_by : List ℕ → Mark → List ℕ → List ℕ → Step
post_by text (Pre kind) digits rest = record { digits = None; rest = text }
post_by text Post digits rest = record { digits = Some digits; rest = rest }
post_by text Dev digits rest = record { digits = None; rest = text }

abbrev pub post_taken : List ℕ → Option Taken → Step
post_taken text None = record { digits = None; rest = text }
post_taken text (Some taken) = post_by text taken.mark taken.digits taken.rest

-- '-' and a digit stand at the front of the text
abbrev pub is_dashed : List ℕ → Bool
is_dashed [] = false
is_dashed (b ∷ text) = b == hyphen && begins is_ascii_digit text

-- an implicit post-release comes before one that has a word
abbrev pub post_step : List ℕ → Step
post_step text =
    if is_dashed text
    then record { digits = Some (run is_ascii_digit (drop 1 text)); rest = past is_ascii_digit (drop 1 text) }
    else post_taken text (suffix_at text)

abbrev pub dev_by : List ℕ → Mark → List ℕ → List ℕ → Step
dev_by text (Pre kind) digits rest = record { digits = None; rest = text }
dev_by text Post digits rest = record { digits = None; rest = text }
dev_by text Dev digits rest = record { digits = Some digits; rest = rest }

abbrev pub dev_taken : List ℕ → Option Taken → Step
dev_taken text None = record { digits = None; rest = text }
dev_taken text (Some taken) = dev_by text taken.mark taken.digits taken.rest

abbrev pub dev_step : List ℕ → Step
dev_step text = dev_taken text (suffix_at text)

-- ---- the epoch and the release

-- digits, one or more, behind which a '!' stands are an epoch
abbrev pub epoch_by : List ℕ → List ℕ → List ℕ → Step
epoch_by text digits [] = record { digits = None; rest = text }
epoch_by text digits (b ∷ behind) =
    if has_byte digits && b == bang
    then record { digits = Some digits; rest = behind }
    else record { digits = None; rest = text }

abbrev pub epoch_step : List ℕ → Step
epoch_step text = epoch_by text (run is_ascii_digit text) (past is_ascii_digit text)

-- a digit or '.'
abbrev pub is_release_byte : ℕ → Bool
is_release_byte b = is_ascii_digit b || b == dot

abbrev pub is_dot : ℕ → Bool
is_dot b = b == dot

-- the longest run of such bytes that does not end with '.'
abbrev pub release_at : List ℕ → List ℕ
release_at text = without_end is_dot (run is_release_byte text)

abbrev pub after_release : List ℕ → List ℕ
after_release text = drop (length (release_at text)) text

-- ---- parts

abbrev pub is_no_dot : ℕ → Bool
is_no_dot b = not (is_dot b)

abbrev pub is_no_separator : ℕ → Bool
is_no_separator b = not (is_separator b)

-- what stands behind the first byte, where there is one
abbrev pub behind_first : List ℕ → Option (List ℕ)
behind_first [] = None
behind_first (b ∷ text) = Some text

-- how many bytes that has, with the byte in front of it
abbrev pub option_length : Option (List ℕ) → ℕ
option_length None = 0
option_length (Some text) = length text + 1

-- the parts of what stands behind a byte that ends a part, where there is one
abbrev pub parts_behind : (ℕ → Bool) → Option (List ℕ) → List (List ℕ)
parts_behind test None = []
parts_behind test (Some text) = slice_split test text

-- ---- a text taken apart

-- The parts of a text, with the numerals of the release and the parts of the label still joined. The label has its '+'.
pub record Apart : Type 0 where
  pub epoch : Option (List ℕ)
  pub release : List ℕ
  pub pre : Option PreTaken
  pub post : Option (List ℕ)
  pub dev : Option (List ℕ)
  pub label : List ℕ

-- the suffixes of a text behind its release
abbrev pub with_dev : Option (List ℕ) → List ℕ → Option PreTaken → Option (List ℕ) → Step → Apart
with_dev epoch release pre post dev =
    record { epoch = epoch; release = release; pre = pre; post = post; dev = dev.digits; label = dev.rest }

abbrev pub with_post : Option (List ℕ) → List ℕ → Option PreTaken → Step → Apart
with_post epoch release pre post = with_dev epoch release pre post.digits (dev_step post.rest)

abbrev pub with_pre : Option (List ℕ) → List ℕ → PreStep → Apart
with_pre epoch release pre = with_post epoch release pre.pre (post_step pre.rest)

abbrev pub from_release : Option (List ℕ) → List ℕ → Apart
from_release epoch text = with_pre epoch (release_at text) (pre_step (after_release text))

abbrev pub from_epoch : Step → Apart
from_epoch epoch = from_release epoch.digits epoch.rest

unfoldable pub apart : List ℕ → Apart
apart text = from_epoch (epoch_step (after_v (trimmed text)))

-- ---- forms

-- the numerals of a release, the parts of a label
abbrev pub release_parts : List ℕ → List (List ℕ)
release_parts = slice_split is_dot

abbrev pub label_parts : List ℕ → List (List ℕ)
label_parts [] = []
label_parts (sign ∷ label) = slice_split is_separator label

abbrev pub is_label : List ℕ → Bool
is_label [] = true
is_label (sign ∷ label) = sign == plus && list_all is_local_text (slice_split is_separator label)

abbrev pub are_digits : Option (List ℕ) → Bool
are_digits None = true
are_digits (Some digits) = list_all is_ascii_digit digits

abbrev pub are_pre_digits : Option PreTaken → Bool
are_pre_digits None = true
are_pre_digits (Some pre) = list_all is_ascii_digit pre.digits

-- the parts of a text that spells a version
pub record AreTaken (a : Apart) : Type 0 where
  pub epoch : are_digits a.epoch ≡ true
  pub release : list_all is_numeral (release_parts a.release) ≡ true
  pub pre : are_pre_digits a.pre ≡ true
  pub post : are_digits a.post ≡ true
  pub dev : are_digits a.dev ≡ true
  pub label : is_label a.label ≡ true

-- ---- values

abbrev pub pre_part_of : Option PreTaken → Option PrePart
pre_part_of None = None
pre_part_of (Some pre) = Some (record { kind = pre.kind; number = value pre.digits })

-- the version that the parts stand for
abbrev pub fields_of : Apart → Fields
fields_of a = record {
  epoch = epoch_value a.epoch;
  release = map value (release_parts a.release);
  pre = pre_part_of a.pre;
  post = option_map value a.post;
  dev = option_map value a.dev;
  local = map local_of (label_parts a.label);
}
