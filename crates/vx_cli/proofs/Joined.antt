-- The length of a line, by a tab behind each field.
use Rattle.std.proofs.Common.{◌≡◌, ◌≤◌, ◌<◌, ◌^◌, ℕ, ◌+◌, ◌-◌, List, [], ◌∷◌, length, map, min, drop, arith, refl, length-append}
use Rattle.std.proofs.lemmas.List.{drop_all}
use Rattle.std.specs.List.{join_with_byte}
use Rattle.vx_batch.specs.Fields.{joined_length}

-- the length of the fields, each with a tab behind it
abbrev pub spaced : List (List ℕ) → ℕ
spaced [] = 0
spaced (field ∷ fields) = length field + 1 + spaced fields

-- the last tab is one too many
pub spaced_joined : (fields : List (List ℕ)) → spaced fields - 1 ≡ joined_length fields
spaced_joined [] = refl
spaced_joined (field ∷ []) = omega arith
spaced_joined (field ∷ next ∷ fields) =
    let rest = spaced_joined (next ∷ fields) in
    omega (arith, rest, length-append field (9 ∷ join_with_byte 9 (next ∷ fields)))

-- the same of entries that give the fields
abbrev pub spaced_by : {A : Type 0} → (A → List ℕ) → List A → ℕ
spaced_by field_of [] = 0
spaced_by field_of (entry ∷ entries) = length (field_of entry) + 1 + spaced_by field_of entries

spaced_of : {A : Type 0} (field_of : A → List ℕ) (entries : List A) → spaced_by field_of entries ≡ spaced (map field_of entries)
spaced_of field_of [] = refl
spaced_of field_of (entry ∷ entries) = rw (spaced_of field_of entries) refl

-- what is counted, and the entries from this one on, make the whole, up to the end of the type
abbrev pub IsCounted : {A : Type 0} → (A → List ℕ) → ℕ → ℕ → List A → Type 0
IsCounted field_of total index entries =
    (min (total + spaced_by field_of (drop index entries)) (2 ^ 64 - 1) ≡ min (spaced_by field_of entries) (2 ^ 64 - 1)) × (total < 2 ^ 64)

-- all of it is counted
pub counted : {A : Type 0} (field_of : A → List ℕ) (total index : ℕ) (entries : List A) → length entries ≤ index → IsCounted field_of total index entries → total - 1 ≡ min (joined_length (map field_of entries)) (2 ^ 64 - 2)
counted field_of total index entries h c =
    let rest = rw (drop_all index entries h) at c.0 in
    rw (← spaced_joined (map field_of entries), ← spaced_of field_of entries) (omega (arith, rest, c.1))
