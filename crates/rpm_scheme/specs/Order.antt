-- The order of versions after rpm-version(7): by the first place at which the keys of two versions differ.
use Rattle.std.specs.Prelude.{List, [], ◌∷◌, Option, Some, None}
use Rattle.std.specs.Cmp.{IsTotalOrder, on_total}
use Rattle.std.specs.declared.cmp.Ordering.{Ordering}
use Rattle.vx_spec.specs.Places.{ComparesAs, endless}
use Rattle.vx_spec.specs.Rows.{rows_cmp}
use Rattle.vx_spec.proofs.RowLaws.{rows_total}
use Rattle.vx_order.specs.declared.letter.Letter.{Letter}
use Rattle.vx_order.specs.Letters.{letters_cmp}
use Rattle.vx_order.proofs.LetterLaws.{letters_total}
use Rattle.rpm_scheme.specs.Version.{Fields, count_letter, end_rank}

-- no letters where there is no release; else a letter above the end stands before those of the release, so that no release
-- is below any
abbrev pub release_key : Option (List Letter) → List Letter
release_key None = []
release_key (Some letters) = count_letter 0 ∷ letters

-- the epoch, then the version, then the release
abbrev pub key : Fields → List (List Letter)
key v = (count_letter v.epoch ∷ []) ∷ v.version ∷ release_key v.release ∷ []

-- How two versions compare: the first lists of the keys that differ decide, by their first letters that differ. Each list
-- goes on without end with the end's letter, so that all but '~' stands above the end.
abbrev pub order_of : Fields → Fields → Ordering
order_of a b = rows_cmp (letters_cmp end_rank) [] (key a) (key b)

-- the answer says how the keys compare at the first of their lists that differ
abbrev pub AnswersKeys : Fields → Fields → Ordering → Type 0
AnswersKeys a b answer = ComparesAs (letters_cmp end_rank) (endless [] (key a)) (endless [] (key b)) answer

pub order_total : IsTotalOrder order_of
order_total = on_total key (rows_total (letters_cmp end_rank) (letters_total end_rank) [])
