-- A version after rpm-version(7): its fields, with numbers of any size and texts as their bytes; the letters of a part of
-- its text; the version without its release; and the limit of numerals.
use Rattle.std.specs.Prelude.{◌≡◌, ◌≢◌, ℕ, ◌==◌, ◌<◌, ◌^◌, not, Bool, if◌then◌else◌, List, [], ◌∷◌, Option, Some, None}
use Rattle.std.specs.List.{AllByRecursion}
use Rattle.vx_spec.specs.Runs.{run}
use Rattle.vx_spec.specs.Signs.{caret, hyphen, tilde}
use Rattle.vx_order.specs.Letters.{LetterIsWithin}
use Rattle.vx_order.specs.declared.letter.Letter.{Letter}
use Rattle.vx_order.specs.Scanning.{behind_token, scanned, token_entries}

-- the fields: the text as it is written, the epoch, the letters of the version, and those of the release where there is one
pub record Fields : Type 0 where
  pub text : List ℕ
  pub epoch : ℕ
  pub version : List Letter
  pub release : Option (List Letter)

-- The ranks of letters, from the lowest: '~', the end of a list, '^', a run of ASCII letters, a number.
abbrev pub tilde_rank : ℕ
tilde_rank = 0

abbrev pub end_rank : ℕ
end_rank = 1

abbrev pub caret_rank : ℕ
caret_rank = 2

abbrev pub word_rank : ℕ
word_rank = 3

abbrev pub number_rank : ℕ
number_rank = 4

-- a number, as that of a run of digits
abbrev pub count_letter : ℕ → Letter
count_letter number = record { rank = number_rank; number = number; text = [] }

-- a run of letters, by its bytes
abbrev pub word_letter : List ℕ → Letter
word_letter word = record { rank = word_rank; number = 0; text = word }

-- '~' or '^'
abbrev pub sign_letter : ℕ → Letter
sign_letter rank = record { rank = rank; number = 0; text = [] }

-- A byte that is neither letter nor digit: '~' and '^' are tokens, and any other byte only parts tokens.
abbrev pub sign_letters : ℕ → List Letter
sign_letters b = if b == tilde then sign_letter tilde_rank ∷ [] else (if b == caret then sign_letter caret_rank ∷ [] else [])

-- the letter of the token at the front of a part; none where a byte stands there that parts tokens
abbrev pub first_letters : List ℕ → List Letter
first_letters part = token_entries count_letter word_letter sign_letters part

-- the letters of a part, token by token
abbrev pub letters_of : List ℕ → List Letter
letters_of part = scanned first_letters behind_token part

-- a byte other than '-'
abbrev pub is_no_hyphen : ℕ → Bool
is_no_hyphen b = not (b == hyphen)

-- what stands before the '-' of a version's text, or all of it where there is none
abbrev pub front_text : List ℕ → List ℕ
front_text text = run is_no_hyphen text

-- a version without its release: that of the text before the '-'
abbrev pub without_release : Fields → Fields
without_release v = record { text = front_text v.text; epoch = v.epoch; version = v.version; release = None }

-- a version with a release, and one without
abbrev pub HasRelease : Fields → Type 0
HasRelease v = v.release ≢ None

abbrev pub IsWithoutRelease : Fields → Type 0
IsWithoutRelease v = v.release ≡ None

-- the letters of a release that is left out are within the limit
abbrev pub ReleaseIsWithin : Option (List Letter) → Type 0
ReleaseIsWithin None = Unit {0}
ReleaseIsWithin (Some letters) = AllByRecursion LetterIsWithin letters

-- the epoch and each run of digits are within the limit of 128 bits
abbrev pub IsWithin : Fields → Type 0
IsWithin v = (v.epoch < 2 ^ 128) × AllByRecursion LetterIsWithin v.version × ReleaseIsWithin v.release
