-- The normal text of a version after PEP 440, "Normalization".
use Rattle.std.specs.Prelude.{ℕ, ◌==◌, if◌then◌else◌, List, [], ◌∷◌, ◌++◌, map, codes, Option, Some, None}
use Rattle.std.specs.List.{join_with_byte}
use Rattle.vx_spec.specs.Numerals.{numeral_text}
use Rattle.vx_scheme.specs.declared.ident.Ident.{Ident}
use Rattle.vx_scheme.specs.declared.ident.Ident.TheVariants.{Number, Word}
use Rattle.pep440_scheme.specs.declared.version.PreKind.{PreKind}
use Rattle.pep440_scheme.specs.declared.version.PreKind.TheVariants.{A, B, Rc}
use Rattle.pep440_scheme.specs.declared.version.PrePart.{PrePart}
use Rattle.pep440_scheme.specs.Version.{Fields}
use Rattle.vx_spec.specs.Signs.{bang, dot, plus}

-- the epoch and '!', where it is not 0
abbrev pub epoch_text : ℕ → List ℕ
epoch_text epoch = if epoch == 0 then [] else numeral_text epoch ++ bang ∷ []

-- the numerals joined by '.', with the zeros at the end
abbrev pub release_text : List ℕ → List ℕ
release_text release = join_with_byte dot (map numeral_text release)

-- "Pre-release spelling"
abbrev pub kind_text : PreKind → List ℕ
kind_text A = codes "a"
kind_text B = codes "b"
kind_text Rc = codes "rc"

abbrev pub pre_text : Option PrePart → List ℕ
pre_text None = []
pre_text (Some pre) = kind_text pre.kind ++ numeral_text pre.number

-- a word and a numeral, where there is a number
abbrev pub word_text : List ℕ → Option ℕ → List ℕ
word_text word None = []
word_text word (Some n) = word ++ numeral_text n

-- a number's numeral, and a word as it stands
abbrev pub ident_text : Ident → List ℕ
ident_text (Number n) = numeral_text n
ident_text (Word w) = w

-- "Local version segments": '+' and the parts joined by '.', where there are any
abbrev pub locals_text : List Ident → List ℕ
locals_text [] = []
locals_text (ident ∷ idents) = plus ∷ join_with_byte dot (map ident_text (ident ∷ idents))

-- ".devN", and the label
abbrev pub ends_text : Fields → List ℕ
ends_text v = word_text (codes ".dev") v.dev ++ locals_text v.local

-- the pre-release, ".postN", and these
abbrev pub suffixes_text : Fields → List ℕ
suffixes_text v = pre_text v.pre ++ (word_text (codes ".post") v.post ++ ends_text v)

abbrev pub normal : Fields → List ℕ
normal v = epoch_text v.epoch ++ (release_text v.release ++ suffixes_text v)
