-- The text of a version after PEP 440, "Normalization" and Appendix B: the text is its parts, one behind the other; each part
-- has its form; and the version has their values. Letters count without regard to their case.
use Rattle.std.specs.Prelude.{◌≡◌, ℕ, ◌&&◌, ◌||◌, ◌==◌, nat_lt, Bool, true, false, List, [], ◌∷◌, ◌++◌, length, map, Option, Some, None, codes, if◌then◌else◌}
use Rattle.std.specs.Str.{bytes_eq}
use Rattle.std.specs.Char.{is_ascii_alphanumeric, is_ascii_digit}
use Rattle.std.specs.List.{flat_map, list_all, join_with_byte}
use Rattle.vx_spec.specs.Marks.{in_front}
use Rattle.vx_spec.specs.Numerals.{is_numeral, value}
use Rattle.vx_spec.specs.Runs.{is_blank, is_made_of}
use Rattle.vx_spec.specs.Signs.{bang, dot, hyphen, plus, underscore}
use Rattle.vx_text.specs.EpochParts.{epoch_value, is_epoch}
use Rattle.vx_text.specs.Folding.{lowered}
use Rattle.vx_scheme.specs.declared.ident.Ident.{Ident}
use Rattle.vx_scheme.specs.declared.ident.Ident.TheVariants.{Number, Word}
use Rattle.pep440_scheme.specs.declared.version.PrePart.{PrePart}
use Rattle.pep440_scheme.specs.declared.words.Mark.{Mark}
use Rattle.pep440_scheme.specs.declared.words.Mark.TheVariants.{Pre, Post, Dev}
use Rattle.pep440_scheme.specs.Version.{Fields}
use Rattle.pep440_scheme.specs.Words.{mark_of}

-- a pre-, post- or dev-release: a separator, a word, a separator and a numeral, any of which may be left out where its form
-- says so
pub record Suffix : Type 0 where
  pub lead : List ℕ
  pub word : List ℕ
  pub gap : List ℕ
  pub digits : List ℕ

-- a part of a local version label, and the sign before it
pub record LocalPart : Type 0 where
  pub sign : ℕ
  pub text : List ℕ

-- the parts of a version's text
pub record Parts : Type 0 where
  pub before : List ℕ
  pub v : List ℕ
  pub epoch : Option (List ℕ)
  pub release : List (List ℕ)
  pub pre : Option Suffix
  pub post : Option Suffix
  pub dev : Option Suffix
  pub locals : List LocalPart
  pub behind : List ℕ

-- what stands in the text for a suffix
abbrev pub suffix_text : Suffix → List ℕ
suffix_text s = s.lead ++ (s.word ++ (s.gap ++ s.digits))

-- nothing where it is left out
abbrev pub option_text : Option Suffix → List ℕ
option_text None = []
option_text (Some s) = suffix_text s

-- the sign and the part
abbrev pub local_text : LocalPart → List ℕ
local_text part = part.sign ∷ part.text

-- the text behind the release
abbrev pub suffixes : Parts → List ℕ
suffixes p = option_text p.pre ++ (option_text p.post ++ (option_text p.dev ++ flat_map local_text p.locals))

-- the text without the blanks at its ends and without the 'v'
abbrev pub core : Parts → List ℕ
core p = in_front bang p.epoch (join_with_byte dot p.release ++ suffixes p)

-- the whole text
abbrev pub whole : Parts → List ℕ
whole p = p.before ++ ((p.v ++ core p) ++ p.behind)

-- '.', '-' and '_'
abbrev pub is_separator : ℕ → Bool
is_separator b = b == dot || b == hyphen || b == underscore

-- a separator, or nothing
abbrev pub is_gap : List ℕ → Bool
is_gap [] = true
is_gap (b ∷ []) = is_separator b
is_gap (b ∷ c ∷ text) = false

-- "Preceding v character": a 'v', or nothing
abbrev pub is_v : List ℕ → Bool
is_v text = bytes_eq text [] || bytes_eq (lowered text) (codes "v")

-- the word stands for a pre-release, for a post-release, for a dev-release
abbrev pub is_pre_mark : Option Mark → Bool
is_pre_mark (Some (Pre kind)) = true
is_pre_mark (Some Post) = false
is_pre_mark (Some Dev) = false
is_pre_mark None = false

abbrev pub is_post_mark : Option Mark → Bool
is_post_mark (Some (Pre kind)) = false
is_post_mark (Some Post) = true
is_post_mark (Some Dev) = false
is_post_mark None = false

abbrev pub is_dev_mark : Option Mark → Bool
is_dev_mark (Some (Pre kind)) = false
is_dev_mark (Some Post) = false
is_dev_mark (Some Dev) = true
is_dev_mark None = false

-- "Pre-release separators" and "Implicit pre-release number", and the same of post- and dev-releases: a word that passes, in
-- any case of its letters, with a separator or nothing before and behind it, and digits or none
abbrev pub is_suffix : (Option Mark → Bool) → Suffix → Bool
is_suffix test s = is_gap s.lead && (test (mark_of (lowered s.word)) && (is_gap s.gap && list_all is_ascii_digit s.digits))

-- "Implicit post releases": '-' and a numeral
abbrev pub is_implicit : Suffix → Bool
is_implicit s = bytes_eq s.lead (codes "-") && (bytes_eq s.word [] && (bytes_eq s.gap [] && is_numeral s.digits))

abbrev pub is_pre : Option Suffix → Bool
is_pre None = true
is_pre (Some s) = is_suffix is_pre_mark s

abbrev pub is_post : Option Suffix → Bool
is_post None = true
is_post (Some s) = is_implicit s || is_suffix is_post_mark s

abbrev pub is_dev : Option Suffix → Bool
is_dev None = true
is_dev (Some s) = is_suffix is_dev_mark s

-- there is a byte at least
abbrev pub has_byte : List ℕ → Bool
has_byte [] = false
has_byte (b ∷ text) = true

-- An implicit post-release may stand behind a pre-release only where that has a numeral or ends with a separator: else the
-- numeral belongs to the pre-release, as in `1.0a-1`, which is `1.0a1`.
abbrev pub is_closed : Option Suffix → Bool
is_closed None = true
is_closed (Some s) = has_byte s.digits || has_byte s.gap

abbrev pub may_follow : Option Suffix → Option Suffix → Bool
may_follow pre None = true
may_follow pre (Some s) = if is_implicit s then is_closed pre else true

-- a part of a local version label: one letter or digit or more
abbrev pub is_local_text : List ℕ → Bool
is_local_text text = is_made_of is_ascii_alphanumeric text

-- a part behind the first one, "Local version segments": behind '.', '-' or '_'
abbrev pub is_later_local : LocalPart → Bool
is_later_local part = is_separator part.sign && is_local_text part.text

-- the first part stands behind '+'
abbrev pub are_locals : List LocalPart → Bool
are_locals [] = true
are_locals (part ∷ parts) = (part.sign == plus && is_local_text part.text) && list_all is_later_local parts

-- each part has its form
pub record AreVersionParts (p : Parts) : Type 0 where
  -- "Leading and Trailing Whitespace"
  pub before : list_all is_blank p.before ≡ true
  pub behind : list_all is_blank p.behind ≡ true
  pub v : is_v p.v ≡ true
  pub epoch : is_epoch p.epoch ≡ true
  -- "Final releases": one numeral or more
  pub release : nat_lt 0 (length p.release) ≡ true
  pub numerals : list_all is_numeral p.release ≡ true
  pub pre : is_pre p.pre ≡ true
  pub post : is_post p.post ≡ true
  pub dev : is_dev p.dev ≡ true
  pub follows : may_follow p.pre p.post ≡ true
  pub locals : are_locals p.locals ≡ true

-- the pre-release of a word's mark
abbrev pub pre_of : Option Mark → ℕ → Option PrePart
pre_of (Some (Pre kind)) number = Some (record { kind = kind; number = number })
pre_of (Some Post) number = None
pre_of (Some Dev) number = None
pre_of None number = None

abbrev pub pre_value : Option Suffix → Option PrePart
pre_value None = None
pre_value (Some s) = pre_of (mark_of (lowered s.word)) (value s.digits)

-- a numeral that is left out is 0
abbrev pub suffix_value : Option Suffix → Option ℕ
suffix_value None = None
suffix_value (Some s) = Some (value s.digits)

-- digits alone stand for their number, and any other part for its letters and digits, in small letters
abbrev pub local_of : List ℕ → Ident
local_of text = if is_numeral text then Number (value text) else Word (lowered text)

-- the version that the parts stand for
abbrev pub version_of : Parts → Fields
version_of p = record {
  epoch = epoch_value p.epoch;
  release = map value p.release;
  pre = pre_value p.pre;
  post = suffix_value p.post;
  dev = suffix_value p.dev;
  local = map (λ part. local_of part.text) p.locals;
}

-- The text spells the version, with numerals of any length.
pub record Spells (text : List ℕ) (v : Fields) : Type 0 where
  pub parts : Parts
  pub joined : text ≡ whole parts
  pub form : AreVersionParts parts
  pub values : v ≡ version_of parts
