-- Which letters of a pair are within the limit.
use Rattle.std.proofs.Common.{◌<◌, ◌^◌, ℕ, zero, suc, List, [], ◌∷◌, map, take, arith}
use Rattle.std.specs.List.{AllByRecursion, prefix_len}
use Rattle.vx_spec.specs.Runs.{run}
use Rattle.vx_spec.specs.Numerals.{value}
use Rattle.vx_spec.proofs.EachLaws.{each_append, each_behind}
use Rattle.vx_order.specs.Letters.{LetterIsWithin, end_letter}
use Rattle.deb_scheme.specs.Version.{is_other, first_letters, first_pair, byte_letter, end_rank, number_letter}

-- the letters of a pair are within the limit where its bytes and its number are
bytes_within : (others : List ℕ) → AllByRecursion (λ b. b < 2 ^ 128) others → AllByRecursion LetterIsWithin (map byte_letter others)
bytes_within [] all = tt
bytes_within (b ∷ others) all = (all.0, bytes_within others all.1)

each_taken : (P : ℕ → Type 0) (n : ℕ) (text : List ℕ) → AllByRecursion P text → AllByRecursion P (take n text)
each_taken P zero text all = tt
each_taken P (suc n) [] all = tt
each_taken P (suc n) (b ∷ text) all = (all.0, each_taken P n text all.1)

pub pair_within : (part : List ℕ) → AllByRecursion (λ b. b < 2 ^ 128) part → value (first_pair part).digits < 2 ^ 128 → AllByRecursion LetterIsWithin (first_letters part)
pair_within part all number =
    each_append LetterIsWithin (map byte_letter (run is_other part)) (end_letter end_rank ∷ number_letter (first_pair part).digits ∷ [])
    (bytes_within (run is_other part) (each_taken (λ b. b < 2 ^ 128) (prefix_len is_other part) part all))
    (omega arith, (number, tt))

-- the number of a pair is within the limit where its letters are
pub number_within : (part : List ℕ) → AllByRecursion LetterIsWithin (first_letters part) → value (first_pair part).digits < 2 ^ 128
number_within part fits = (each_behind LetterIsWithin (map byte_letter (run is_other part)) (end_letter end_rank ∷ number_letter (first_pair part).digits ∷ []) fits).1.0
