-- The order of versions after PEP 440, "Summary of permitted suffixes and relative ordering": by the first place at which the
-- keys of two versions differ.
use Rattle.std.specs.Prelude.{ℕ, List, [], ◌∷◌, map, Option, Some, None}
use Rattle.std.specs.Cmp.{IsTotalOrder, on_total}
use Rattle.std.specs.declared.cmp.Ordering.{Ordering}
use Rattle.vx_spec.specs.Places.{ComparesAs, endless}
use Rattle.vx_spec.specs.Rows.{rows_cmp}
use Rattle.vx_spec.proofs.RowLaws.{rows_total}
use Rattle.vx_scheme.specs.declared.ident.Ident.{Ident}
use Rattle.vx_scheme.specs.declared.ident.Ident.TheVariants.{Number, Word}
use Rattle.vx_order.specs.declared.letter.Letter.{Letter}
use Rattle.vx_order.specs.Letters.{letters_cmp}
use Rattle.vx_order.proofs.LetterLaws.{letters_total}
use Rattle.pep440_scheme.specs.declared.version.PreKind.{PreKind}
use Rattle.pep440_scheme.specs.declared.version.PreKind.TheVariants.{A, B, Rc}
use Rattle.pep440_scheme.specs.declared.version.PrePart.{PrePart}
use Rattle.pep440_scheme.specs.Version.{Fields}

-- a letter without a text
abbrev pub plain : ℕ → ℕ → Letter
plain rank number = record { rank = rank; number = number; text = [] }

-- The rank of the letter that each list of a key goes on with, without end. The numbers of an epoch and a release have this
-- rank too, so that a number which is missing is 0; the parts of a local version label stand above it.
abbrev pub end_rank : ℕ
end_rank = 1

abbrev pub number_letter : ℕ → Letter
number_letter = plain end_rank

-- "Pre-releases": alpha, beta and candidate releases, in this order
abbrev pub kind_rank : PreKind → ℕ
kind_rank A = 1
kind_rank B = 2
kind_rank Rc = 3

-- Pre-releases go by their kind and number, and are below what has none; but "Developmental releases": where neither pre nor
-- post stands before a dev, the version is below every pre-release.
abbrev pub pre_letter : Option PrePart → Option ℕ → Option ℕ → Letter
pre_letter (Some pre) post dev = plain (kind_rank pre.kind) pre.number
pre_letter None None (Some n) = plain 0 0
pre_letter None None None = plain 4 0
pre_letter None (Some n) dev = plain 4 0

-- "Post-releases": by number, and above what has none
abbrev pub post_letter : Option ℕ → Letter
post_letter None = plain 0 0
post_letter (Some n) = plain 1 n

-- "Developmental releases": by number, and below what has none
abbrev pub dev_letter : Option ℕ → Letter
dev_letter (Some n) = plain 0 n
dev_letter None = plain 1 0

-- "Local version identifiers": parts of letters go by their bytes and are below numbers, which go by value
abbrev pub local_letter : Ident → Letter
local_letter (Word w) = record { rank = 2; number = 0; text = w }
local_letter (Number n) = plain 3 n

-- the epoch, the release, the pre-release, the post-release, the dev-release, the local version label
abbrev pub key : Fields → List (List Letter)
key v =
    (number_letter v.epoch ∷ [])
    ∷ map number_letter v.release
    ∷ (pre_letter v.pre v.post v.dev ∷ [])
    ∷ (post_letter v.post ∷ [])
    ∷ (dev_letter v.dev ∷ [])
    ∷ map local_letter v.local
    ∷ []

-- How two versions compare: the first lists of the keys that differ decide, by their first letters that differ. Each list goes
-- on without end with the number 0: the zeros at the end of a release count for nothing, and a label is below a longer one
-- that it begins.
abbrev pub order_of : Fields → Fields → Ordering
order_of a b = rows_cmp (letters_cmp end_rank) [] (key a) (key b)

-- the answer says how the keys compare at the first of their lists that differ
abbrev pub AnswersKeys : Fields → Fields → Ordering → Type 0
AnswersKeys a b answer = ComparesAs (letters_cmp end_rank) (endless [] (key a)) (endless [] (key b)) answer

pub order_total : IsTotalOrder order_of
order_total = on_total key (rows_total (letters_cmp end_rank) (letters_total end_rank) [])
